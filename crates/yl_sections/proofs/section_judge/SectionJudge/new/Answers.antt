use Rattle.std.proofs.Common.{refl}
use Rattle.yl_sections.proofs.section_judge.SectionJudge.new.Goals as goal

pub returns : goal.returns
returns g c = λ config. record { rows = refl; first = refl; scanned = refl; stage = refl; comments = c.new.ensures config }
