use Rattle.std.proofs.lemmas.Slice.Eq.{slice_eq-Decides}
use Rattle.yl_events.proofs.States.{block_decides}
use Rattle.yl_events.proofs.trail.are_same_blocks.Goals as goal

pub returns : goal.returns
returns c = slice_eq-Decides block_decides c.args.one.now c.args.other.now c.eq.result c.eq.ensures
