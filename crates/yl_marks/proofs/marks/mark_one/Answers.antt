use Rattle.yl_marks.proofs.Unmarked.{with_marks}
use Rattle.yl_marks.proofs.marks.mark_one.Goals as goal

pub returns-clause-marks : goal.returns-clause-marks
returns-clause-marks g c = with_marks c.args.symbols.now.items _ _ _ _ _ _ c.in_ok-mark_place.ensures.marks c.in_ok-push-2.ensures.items
