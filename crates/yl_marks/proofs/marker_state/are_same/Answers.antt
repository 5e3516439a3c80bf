use Rattle.std.proofs.Common.{rules}
use Rattle.std.proofs.lemmas.Slice.Eq.{slice_eq-Decides}
use Rattle.yl_marks.proofs.marker_state.are_same.Goals as goal

pub returns : goal.returns
returns c = slice_eq-Decides (λ x y. (λ h. search rules, λ h. search rules)) c.args.one.now c.args.other.now c.eq.result c.eq.ensures
