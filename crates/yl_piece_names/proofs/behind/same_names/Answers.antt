use Rattle.yl_piece_names.proofs.SameNames as same
use Rattle.yl_piece_names.proofs.behind.same_names.Goals as goal

pub returns : goal.returns
returns c = same.same_names
