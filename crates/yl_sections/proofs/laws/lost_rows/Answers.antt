use Rattle.yl_sections.proofs.Lost as lost
use Rattle.yl_sections.proofs.laws.lost_rows.Goals as goal

pub returns : goal.returns
returns c = lost.lost_rows
