use Rattle.yl_piece_reports.proofs.PieceCut as laws
use Rattle.yl_piece_reports.proofs.told.piece_is_cut.Goals as goal

pub returns : goal.returns
returns c = laws.piece_is_cut
