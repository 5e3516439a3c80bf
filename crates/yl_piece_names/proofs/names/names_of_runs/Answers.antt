use Rattle.yl_piece_names.proofs.KeptNames as names
use Rattle.yl_piece_names.proofs.names.names_of_runs.Goals as goal

pub returns : goal.returns
returns c = names.names_of_runs
