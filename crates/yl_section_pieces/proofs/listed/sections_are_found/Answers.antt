use Rattle.yl_section_pieces.proofs.Sections as laws
use Rattle.yl_section_pieces.proofs.listed.sections_are_found.Goals as goal

pub returns : goal.returns
returns c = laws.sections_are_found
