use Rattle.yl_pieces.proofs.DuplicatesOfRuns as duplicates
use Rattle.yl_pieces.proofs.duplicates.duplicates_of_runs.Goals as goal

pub returns : goal.returns
returns c = duplicates.duplicates_of_runs
