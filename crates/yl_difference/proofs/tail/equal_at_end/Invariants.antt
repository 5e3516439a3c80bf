use Rattle.std.proofs.Common.{◌-◌}
use Rattle.yl_difference.specs.Rest.{AreAlike}
use Rattle.yl_difference.proofs.tail.equal_at_end.Given as goal

abbrev pub invariant-loop-same : goal.invariant-loop-same
invariant-loop-same l = AreAlike l.xs l.ys l.same

abbrev pub decreases-loop-same : goal.decreases-loop-same
decreases-loop-same l = l.most - l.same
