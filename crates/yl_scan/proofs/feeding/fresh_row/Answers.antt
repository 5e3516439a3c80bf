use Rattle.std.proofs.Common.{false, true, ap, sym, ◌∙◌}
use Rattle.std.proofs.lemmas.Result.{IfOk-weaker}
use Rattle.yl_lexeme.specs.Known.{context_of, new_row}
use Rattle.yl_lexeme.specs.Surroundings.{surroundings_value}
use Rattle.yl_row.specs.Entries.{state_of}
use Rattle.yl_row.specs.Run.{row_reading_by}
use Rattle.yl_row.specs.Step.{first_tab}
use Rattle.yl_scan.specs.Remaining.{output_of_row}
use Rattle.yl_scan.proofs.feeding.fresh_row.Goals as goal

pub returns-clause-told : goal.returns-clause-told
returns-clause-told g c = IfOk-weaker c.read_on.result _ _ (λ step told rows.
    let k = surroundings_value c.args.surroundings.now in
    let row = c.args.row.now in
    ap (λ state. output_of_row c.args.line rows state (row_reading_by rows (first_tab false row) 0 true true 0 (new_row k) row)) (sym (c.sound_start-sound.ensures (state_of (context_of k))))
    ∙ told (state_of (context_of k)) rows) c.read_on.ensures.told
