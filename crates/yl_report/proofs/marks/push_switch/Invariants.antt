use Rattle.std.proofs.Common.{◌≡◌, ℕ, false}
use Rattle.std.specs.Prelude.{nat_le, vec_len}
use Rattle.std.specs.List.Sorted.{IsNonDecreasingBy}
use Rattle.yl_report.specs.Switched.{is_off_at}
use Rattle.yl_report.proofs.marks.push_switch.Given as goal

abbrev pub invariant-loop-switches : goal.invariant-loop-switches
invariant-loop-switches g l = record {
  rising : IsNonDecreasingBy (λ w. w.line) l.switches.items;
  same : (at : ℕ) → nat_le l.line at ≡ false → is_off_at l.switches.items at ≡ is_off_at l.initial.switches.items at;
}

abbrev pub decreases-loop-switches : goal.decreases-loop-switches
decreases-loop-switches g l = vec_len l.switches
