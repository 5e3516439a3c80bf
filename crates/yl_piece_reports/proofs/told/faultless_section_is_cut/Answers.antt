use Rattle.yl_piece_reports.proofs.PieceCut as laws
use Rattle.yl_piece_reports.proofs.told.faultless_section_is_cut.Goals as goal

pub returns : goal.returns
returns c = record { piece = laws.section_is_piece; cut = laws.faultless_section_is_cut }
