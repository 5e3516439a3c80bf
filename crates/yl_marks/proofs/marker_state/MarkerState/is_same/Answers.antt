use Rattle.std.proofs.Common.{◌≡◌, ◌∙◌, ap, reverse, sym}
use Rattle.std.proofs.lemmas.List.{reverse-reverse}
use Rattle.yl_marks.specs.MarksAlike.{KeyMarkerState}
use Rattle.yl_marks.proofs.marker_state.MarkerState.is_same.Goals as goal

pub returns-then-eq-2-clause-alike : goal.returns-then-eq-2-clause-alike
returns-then-eq-2-clause-alike g c =
    let one = c.self.inside.collections.items in
    let other = c.other.inside.collections.items in
    λ e.
    let open_ones : reverse one ≡ reverse other = ap (λ (s : KeyMarkerState). s.marks.open_ones) (c.self.view_is ∙ e ∙ sym c.other.view_is) in
    let same : one ≡ other = sym (reverse-reverse one) ∙ ap (λ bs. reverse bs) open_ones ∙ reverse-reverse other in
    c.are_same.ensures.1 (c.deref.ensures.value ∙ same ∙ sym c.deref-then-eq-2.ensures.value)
