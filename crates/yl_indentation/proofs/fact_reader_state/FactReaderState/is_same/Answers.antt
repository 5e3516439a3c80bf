use Rattle.std.proofs.Common.{◌≡◌, sym, ◌∙◌, ap, List}
use Rattle.std.specs.Prelude.{reverse}
use Rattle.std.proofs.lemmas.List.{reverse-reverse}
use Rattle.yl_indentation.specs.FactsAlike.{ContextState}
use Rattle.yl_indentation.proofs.fact_reader_state.FactReaderState.is_same.Goals as goal

same_reversed : {X : Type 0} (xs ys : List X) → reverse xs ≡ reverse ys → xs ≡ ys
same_reversed xs ys e = sym (reverse-reverse xs) ∙ ap reverse e ∙ reverse-reverse ys

pub returns-then-self-other-clause-alike : goal.returns-then-self-other-clause-alike
returns-then-self-other-clause-alike g c = λ e.
    let opened = ap (λ (s : ContextState). s.open_ones) (c.self.view_is ∙ e ∙ sym c.other.view_is) in
    c.are_same.ensures.1 (c.deref.ensures.value ∙ same_reversed _ _ opened ∙ sym c.deref-then-self-other.ensures.value)
