use Rattle.yl_pieces.proofs.ToldBelow.{told_below_it}
use Rattle.yl_pieces.proofs.told_below.rows_are_told_below.Goals as goal

pub returns : goal.returns
returns c = told_below_it
