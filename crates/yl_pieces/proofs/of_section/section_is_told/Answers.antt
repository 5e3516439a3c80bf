use Rattle.yl_pieces.proofs.OfSection.{told_of_section}
use Rattle.yl_pieces.proofs.of_section.section_is_told.Goals as goal

pub returns : goal.returns
returns c = told_of_section
