use Rattle.yl_config.proofs.OneBuilding.{all_same}
use Rattle.yl_config.proofs.one_building.Goals as goal

pub returns : goal.returns
returns c = all_same
