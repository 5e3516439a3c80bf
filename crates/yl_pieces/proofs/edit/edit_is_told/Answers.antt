use Rattle.yl_pieces.proofs.EditTold.{edit_told}
use Rattle.yl_pieces.proofs.edit.edit_is_told.Goals as goal

pub returns : goal.returns
returns c = edit_told
