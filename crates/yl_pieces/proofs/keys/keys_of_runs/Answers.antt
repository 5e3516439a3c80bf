use Rattle.yl_pieces.proofs.KeysOfRuns as keys
use Rattle.yl_pieces.proofs.keys.keys_of_runs.Goals as goal

pub returns : goal.returns
returns c = keys.keys_of_runs
