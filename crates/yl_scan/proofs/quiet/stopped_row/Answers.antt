use Rattle.std.proofs.Common.{cond, [], Option, Some, None, ap, ◌∙◌}
use Rattle.yl_row.specs.Entries.{LineStateValue, Stopped}
use Rattle.yl_scan.specs.Output.{StepValue}
use Rattle.yl_scan.proofs.quiet.stopped_row.Goals as goal

pub returns-clause-told : goal.returns-clause-told
returns-clause-told g c = λ line s.
    c.silent.ensures.told line s
    ∙ ap (λ (state : Option LineStateValue). let t : StepValue = record { above = None; lexemes = []; comment = None; state = state; fault = None } in t)
    (c.stopped_if.ensures s ∙ ap (λ b. cond b (Some Stopped) None) c.is_sound_past.ensures)
