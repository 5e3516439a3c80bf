use Rattle.yl_pieces.proofs.Within as within
use Rattle.yl_pieces.proofs.edit.told_is_within.Goals as goal

pub returns : goal.returns
returns c = within.told_is_within
