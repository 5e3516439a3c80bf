use Rattle.yl_section_pieces.proofs.PieceEdited as laws
use Rattle.yl_section_pieces.proofs.edited.piece_is_edited.Goals as goal

pub returns : goal.returns
returns c = laws.piece_is_edited
