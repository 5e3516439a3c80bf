use Rattle.yl_marks.proofs.MarksAlike.{marked_alike}
use Rattle.yl_marks.proofs.marker_state.marks_are_alike.Goals as goal

pub returns : goal.returns
returns c = marked_alike
