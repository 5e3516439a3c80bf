use Rattle.yl_sections.proofs.Cuts as cuts
use Rattle.yl_sections.proofs.laws.first_section.Goals as goal

pub returns : goal.returns
returns c = cuts.first_section
