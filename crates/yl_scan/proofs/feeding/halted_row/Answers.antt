use Rattle.std.proofs.Common.{◌+◌, ◌-◌, cond, [], Option, Some, None, ap, sym, ◌∙◌}
use Rattle.yl_row.specs.Entries.{LineStateValue, Stopped, stopped_rows}
use Rattle.yl_scan.specs.Output.{StepValue, output_with_step, output_of_entries}
use Rattle.yl_scan.specs.Remaining.{Halted}
use Rattle.yl_scan.specs.Step.{step_value}
use Rattle.yl_scan.proofs.Stepping.{halts, in_order_here}
use Rattle.yl_scan.proofs.feeding.halted_row.Goals as goal

pub returns-clause-told : goal.returns-clause-told
returns-clause-told g c = λ line s rows k.
    let reach = c.args.reach in
    let below = output_of_entries (line + 1) (stopped_rows reach.to_end (reach.down - 1) rows) in
    halts line c.args.row.now rows reach.to_end reach.down
    ∙ ap (λ b. output_with_step line (record { above = None; lexemes = []; comment = None; state = cond b (Some Stopped) None; fault = None }) below) (sym c.is_sound_behind.ensures)
    ∙ ap (λ (state : Option LineStateValue). output_with_step line (record { above = None; lexemes = []; comment = None; state = state; fault = None }) below) (sym (c.stopped_if.ensures s))
    ∙ ap (λ (t : StepValue). output_with_step line t below) (sym (c.silent-step.ensures.told line s))
    ∙ ap (λ n. output_with_step line (step_value line s c.silent-step.result) (output_of_entries (line + 1) (stopped_rows reach.to_end n rows))) (sym c.saturating_sub.ensures)

pub returns-clause-in_order : goal.returns-clause-in_order
returns-clause-in_order g c = λ line begun k. in_order_here line begun (Halted c.args.reach.to_end c.saturating_sub.result) c.silent-step.result c.silent-step.ensures.fresh tt
