use Rattle.yl_piece_reports.proofs.SameReports as laws
use Rattle.yl_piece_reports.proofs.reports.pieces_report.Goals as goal

pub returns : goal.returns
returns c = laws.pieces_report
