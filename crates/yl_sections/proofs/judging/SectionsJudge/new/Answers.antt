use Rattle.std.proofs.Common.{[], refl}
use Rattle.yl_sections.proofs.judging.SectionsJudge.new.Goals as goal

pub returns : goal.returns
returns g c = λ config. record { done = []; here = []; kept = c.new-2.ensures.items; judges = c.new.ensures config; whole = λ more. refl }
