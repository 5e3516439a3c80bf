use Rattle.yl_units.proofs.Rows.{lead_back}
use Rattle.yl_units.proofs.laws.places_lead_back.Goals as goal

pub returns : goal.returns
returns c = lead_back
