use Rattle.yl_piece_reports.proofs.PiecesWithin as laws
use Rattle.yl_piece_reports.proofs.told.pieces_stand_within.Goals as goal

pub returns : goal.returns
returns c = laws.pieces_stand_within
