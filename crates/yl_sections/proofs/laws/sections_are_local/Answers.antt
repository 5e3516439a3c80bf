use Rattle.std.proofs.Common.{None}
use Rattle.yl_sections.proofs.Local.{joined_parts, sections_local}
use Rattle.yl_sections.proofs.laws.sections_are_local.Goals as goal

pub returns-clause-rows : goal.returns-clause-rows
returns-clause-rows c = joined_parts None

pub returns-clause-local : goal.returns-clause-local
returns-clause-local c = λ old new p q x y z o w xi yi s b h f g. sections_local old new p q x y z o w xi yi s b h f g
