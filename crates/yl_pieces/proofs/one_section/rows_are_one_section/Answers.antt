use Rattle.yl_pieces.proofs.OneSection.{one_section}
use Rattle.yl_pieces.proofs.one_section.rows_are_one_section.Goals as goal

pub returns : goal.returns
returns c = one_section
