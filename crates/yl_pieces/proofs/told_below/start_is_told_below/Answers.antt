use Rattle.yl_pieces.proofs.ToldBelowStart.{start_told_below}
use Rattle.yl_pieces.proofs.told_below.start_is_told_below.Goals as goal

pub returns : goal.returns
returns c = start_told_below
