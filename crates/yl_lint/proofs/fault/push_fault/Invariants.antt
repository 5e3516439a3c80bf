use Rattle.std.proofs.Common.{◌≡◌, ◌++◌, length, map}
use Rattle.yl_lint.specs.TextReport.{fault_in_sections}
use Rattle.yl_lint.proofs.fault.push_fault.Given as goal

abbrev pub invariant-loop-later : goal.invariant-loop-later
invariant-loop-later g l = l.found.items ++ fault_in_sections l.line l.end (map (λ k. k.now) l.later) ≡ l.fn.found.items ++ fault_in_sections 0 l.end (map (λ k. k.now) l.kept)

abbrev pub decreases-loop-later : goal.decreases-loop-later
decreases-loop-later g l = length l.later
