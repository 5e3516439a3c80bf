use Rattle.yl_pieces.proofs.OrderingOfRuns as ordering
use Rattle.yl_pieces.proofs.ordering.ordering_of_runs.Goals as goal

pub returns : goal.returns
returns c = ordering.ordering_of_runs
