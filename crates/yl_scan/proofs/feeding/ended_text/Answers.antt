use Rattle.std.proofs.Common.{[], ap, sym, subst, ◌∙◌}
use Rattle.yl_scan.specs.Remaining.{remaining_output}
use Rattle.yl_scan.specs.Scanner.{EndsOpen, begun_at, phase_value}
use Rattle.yl_scan.proofs.feeding.ended_text.Goals as goal

pub returns-in_ok-step-in-Within-clause-told : goal.returns-in_ok-step-in-Within-clause-told
returns-in_ok-step-in-Within-clause-told g c = λ s start k.
    ap (λ resting. remaining_output c.args.line (phase_value start k resting) []) c.in-Within.is ∙ c.in_ok-step-in-Within.ensures.told s k

pub returns-in_ok-step-in-Within-clause-in_order : goal.returns-in_ok-step-in-Within-clause-in_order
returns-in_ok-step-in-Within-clause-in_order g c = λ start k.
    subst (λ resting. EndsOpen c.args.line (begun_at (phase_value start k resting)) c.in_ok-step-in-Within.step) (sym c.in-Within.is) c.in_ok-step-in-Within.ensures.in_order
