use Rattle.yl_events.proofs.Giving.{gives}
use Rattle.yl_events.proofs.laws.told_documents.Goals as goal

pub returns : goal.returns
returns c = gives
