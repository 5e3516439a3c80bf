use Rattle.yl_row.proofs.Placed.{directives_stand_in_place}
use Rattle.yl_row.proofs.directives.directives_stand_in_place.Goals as goal

pub returns : goal.returns
returns c = directives_stand_in_place
