use Rattle.yl_open_collections.proofs.OpenBy as open_by
use Rattle.yl_open_collections.proofs.opening.goals_open_collections.Goals as goal

pub returns : goal.returns
returns c = open_by.goals_open_collections
