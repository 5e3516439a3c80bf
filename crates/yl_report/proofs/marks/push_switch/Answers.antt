use Rattle.std.proofs.Common.{ap, ◌∙◌, refl}
use Rattle.std.specs.Prelude.{nat_le}
use Rattle.yl_report.specs.Switched.{is_off_at}
use Rattle.yl_report.proofs.LastSwitch.{switched_off-push}
use Rattle.yl_report.proofs.marks.push_switch.Goals as goal

pub returns-clause-switched : goal.returns-clause-switched
returns-clause-switched g c = λ at.
    ap (λ l. is_off_at l at) c.in_ok-push.ensures.items
    ∙ switched_off-push c.args.switches.now.items c.loop-switches.switches.items (record { line = c.args.line; is_off = c.args.is_off }) at (nat_le c.args.line at) refl (c.loop-switches.invariant.same at)
