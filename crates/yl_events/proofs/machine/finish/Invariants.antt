use Rattle.std.proofs.Common.{◌≡◌, reverse, vec_len}
use Rattle.yl_events.specs.Machine.{finish}
use Rattle.yl_events.proofs.machine.finish.Given as goal

abbrev pub invariant-loop-goal : goal.invariant-loop-goal
invariant-loop-goal g l = finish (reverse l.goals.items) l.events.items ≡ finish (reverse l.fn.goals.items) l.fn.events.items

abbrev pub decreases-loop-goal : goal.decreases-loop-goal
decreases-loop-goal g l = vec_len l.goals
