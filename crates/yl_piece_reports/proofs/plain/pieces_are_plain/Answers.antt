use Rattle.yl_piece_reports.proofs.PlainPieces as laws
use Rattle.yl_piece_reports.proofs.plain.pieces_are_plain.Goals as goal

pub returns : goal.returns
returns c = laws.pieces_are_plain
