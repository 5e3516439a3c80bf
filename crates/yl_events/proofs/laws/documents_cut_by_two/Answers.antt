use Rattle.yl_events.proofs.ByTwo.{cuts_by_two}
use Rattle.yl_events.proofs.laws.documents_cut_by_two.Goals as goal

pub returns : goal.returns
returns c = cuts_by_two
