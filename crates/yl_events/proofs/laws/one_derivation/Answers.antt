use Rattle.yl_events.proofs.Complete as complete
use Rattle.yl_events.proofs.Answered.{one_list}
use Rattle.yl_events.proofs.laws.one_derivation.Goals as goal

pub returns-clause-marked : goal.returns-clause-marked
returns-clause-marked c = complete.one_derivation

pub returns-clause-events : goal.returns-clause-events
returns-clause-events c = one_list
