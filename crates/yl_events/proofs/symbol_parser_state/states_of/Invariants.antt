use Rattle.std.proofs.Common.{◌≡◌, map, take}
use Rattle.yl_events.specs.State.{goal_state}
use Rattle.yl_events.proofs.symbol_parser_state.states_of.Given as goal

abbrev pub invariant-loop-goal : goal.invariant-loop-goal
invariant-loop-goal g l = l.states.items ≡ map goal_state (take l.goal-index l.goals)
