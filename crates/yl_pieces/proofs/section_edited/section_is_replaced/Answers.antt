use Rattle.yl_pieces.proofs.SectionEdited.{section_replaced}
use Rattle.yl_pieces.proofs.section_edited.section_is_replaced.Goals as goal

pub returns : goal.returns
returns c = section_replaced
