use Rattle.yl_piece_names.proofs.AskedNames.{names_asked}
use Rattle.yl_piece_names.proofs.asked.asked_names.Goals as goal

pub returns : goal.returns
returns c = names_asked
