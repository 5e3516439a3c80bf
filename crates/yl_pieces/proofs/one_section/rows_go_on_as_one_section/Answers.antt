use Rattle.yl_pieces.proofs.OneSection.{goes_on}
use Rattle.yl_pieces.proofs.one_section.rows_go_on_as_one_section.Goals as goal

pub returns : goal.returns
returns c = goes_on
