use Rattle.yl_piece_names.proofs.OpeningEvents as opening
use Rattle.yl_piece_names.proofs.names.goals_open.Goals as goal

pub returns : goal.returns
returns c = opening.goals_open
