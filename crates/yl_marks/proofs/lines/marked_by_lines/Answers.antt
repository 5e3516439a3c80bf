use Rattle.yl_marks.proofs.ByLines as by_lines
use Rattle.yl_marks.proofs.lines.marked_by_lines.Goals as goal

pub returns : goal.returns
returns c = by_lines.marked_by_lines
