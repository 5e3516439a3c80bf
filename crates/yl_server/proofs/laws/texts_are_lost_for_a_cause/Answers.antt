use Rattle.yl_server.proofs.Lost.{all_lost_for_cause}
use Rattle.yl_server.proofs.laws.texts_are_lost_for_a_cause.Goals as goal

pub returns : goal.returns
returns c = all_lost_for_cause
