use Rattle.std.proofs.lemmas.Slice.Eq.{slice_eq-Decides}
use Rattle.yl_events.proofs.States.{goal_decides}
use Rattle.yl_events.proofs.symbol_parser_state.are_same_goals.Goals as goal

pub returns : goal.returns
returns c = slice_eq-Decides goal_decides c.args.one.now c.args.other.now c.eq.result c.eq.ensures
