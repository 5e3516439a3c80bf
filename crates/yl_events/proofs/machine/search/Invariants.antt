use Rattle.std.proofs.Common.{◌≡◌, reverse, vec_len}
use Rattle.yl_events.specs.Machine.{step}
use Rattle.yl_events.proofs.machine.search.Given as goal

abbrev pub invariant-loop-goal : goal.invariant-loop-goal
invariant-loop-goal g l = step (reverse l.goals.items) l.events.items l.symbol ≡ step (reverse l.fn.goals.items) l.fn.events.items l.symbol

abbrev pub decreases-loop-goal : goal.decreases-loop-goal
decreases-loop-goal g l = vec_len l.goals
