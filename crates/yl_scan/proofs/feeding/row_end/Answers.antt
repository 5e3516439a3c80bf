use Rattle.std.proofs.Common.{ap, subst, ◌∙◌}
use Rattle.yl_row.specs.Reader.{scalar_reader_value}
use Rattle.yl_row.specs.Rows.{EndRests, reading_with_lexemes, row_end_reading}
use Rattle.yl_scan.specs.Remaining.{output_of_row}
use Rattle.yl_scan.specs.Step.{state_by}
use Rattle.yl_scan.proofs.Stepping.{row_opens, begins_under_way}
use Rattle.yl_scan.proofs.feeding.row_end.Goals as goal

pub returns-in-Opens-clause-told : goal.returns-in-Opens-clause-told
returns-in-Opens-clause-told g c = λ s row rows tab k rests.
    let o = c.in-Opens.scalar in
    let at = subst (EndRests row) c.in-Opens.is rests in
    ap (λ end. output_of_row c.args.line rows (state_by s c.args.sound) (reading_with_lexemes c.args.lexemes.items (row_end_reading rows tab row k end))) c.in-Opens.is
    ∙ row_opens c.args.line row rows tab (state_by s c.args.sound) c.args.lexemes.items o.style o.at (scalar_reader_value o.reader) k at.0 at.1

pub returns-in-Opens-clause-in_step : goal.returns-in-Opens-clause-in_step
returns-in-Opens-clause-in_step g c = λ row fits rests.
    let at = subst (EndRests row) c.in-Opens.is rests in
    begins_under_way c.args.line c.in-Opens.scalar.at row (scalar_reader_value c.in-Opens.scalar.reader) fits at.0 at.1
