use Rattle.yl_pieces.proofs.SectionEdited.{section_edited}
use Rattle.yl_pieces.proofs.section_edited.section_is_edited.Goals as goal

pub returns : goal.returns
returns c = section_edited
