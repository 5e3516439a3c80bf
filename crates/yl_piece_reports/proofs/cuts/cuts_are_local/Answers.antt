use Rattle.yl_piece_reports.proofs.Local as laws
use Rattle.yl_piece_reports.proofs.cuts.cuts_are_local.Goals as goal

pub returns : goal.returns
returns c = laws.cuts_are_local
