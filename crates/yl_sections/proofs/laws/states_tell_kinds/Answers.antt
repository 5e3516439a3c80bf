use Rattle.yl_sections.proofs.Last.{last_kept, stopped_empty}
use Rattle.yl_sections.proofs.laws.states_tell_kinds.Goals as goal

pub returns-clause-last : goal.returns-clause-last
returns-clause-last c = last_kept

pub returns-clause-stopped : goal.returns-clause-stopped
returns-clause-stopped c = stopped_empty
