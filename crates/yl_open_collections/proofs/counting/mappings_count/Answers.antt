use Rattle.yl_open_collections.proofs.Counted as counted
use Rattle.yl_open_collections.proofs.counting.mappings_count.Goals as goal

pub returns : goal.returns
returns c = counted.mappings_count
