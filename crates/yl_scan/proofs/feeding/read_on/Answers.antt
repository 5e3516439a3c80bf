use Rattle.std.proofs.Common.{ap, sym, ◌∙◌, not, false}
use Rattle.yl_lexeme.specs.Surroundings.{surroundings_value}
use Rattle.yl_row.specs.Step.{first_tab}
use Rattle.yl_row.specs.Run.{row_reading_by}
use Rattle.yl_row.specs.Rows.{reading_with_lexemes, row_end_reading}
use Rattle.yl_scan.specs.Remaining.{output_of_row}
use Rattle.yl_scan.specs.Scanner.{phase_value}
use Rattle.yl_scan.specs.Step.{state_by}
use Rattle.yl_scan.proofs.Stepping.{in_order_here}
use Rattle.yl_scan.proofs.feeding.read_on.Goals as goal

pub returns-clause-told : goal.returns-clause-told
returns-clause-told g c = λ s rows.
    let row = c.args.row.now in
    ap (λ k. output_of_row c.args.line rows (state_by s c.args.sound) (row_reading_by rows (first_tab (not c.args.fresh) row) c.args.skip c.args.fresh c.args.fresh 0 k row)) (sym c.new_row.ensures)
    ∙ ap (λ tab. output_of_row c.args.line rows (state_by s c.args.sound) (row_reading_by rows tab c.args.skip c.args.fresh c.args.fresh 0 (surroundings_value c.new_row.new.self) row)) (sym c.tab_of-tab.ensures)
    ∙ ap (λ xs. output_of_row c.args.line rows (state_by s c.args.sound) (reading_with_lexemes xs (row_reading_by rows c.tab_of-tab.result c.args.skip c.args.fresh c.args.fresh 0 (surroundings_value c.new_row.new.self) row))) (sym c.clear.ensures.items)
    ∙ ap (output_of_row c.args.line rows (state_by s c.args.sound)) (c.in_ok-end.ensures.read rows
    ∙ ap (λ xs. reading_with_lexemes xs (row_end_reading rows c.tab_of-tab.result row (surroundings_value c.read_row.new.surroundings) c.in_ok-end.end)) (sym c.in_ok-lexemes.ensures))
    ∙ c.row_end.ensures.told s row rows c.tab_of-tab.result (surroundings_value c.read_row.new.surroundings) c.in_ok-end.ensures.rests

pub returns-clause-in_step : goal.returns-clause-in_step
returns-clause-in_step g c = c.row_end.ensures.in_step c.args.row.now c.requires.fits c.in_ok-end.ensures.rests

pub returns-clause-in_order : goal.returns-clause-in_order
returns-clause-in_order g c = λ begun k. in_order_here c.args.line begun (phase_value false k c.row_end.new.resting) c.row_end.result c.row_end.ensures.fresh (c.row_end.ensures.begins k)
