-- What sections behind references show, one section after another.
use Rattle.std.proofs.Common.{◌≡◌, ℕ, suc, ◌+◌, ◌<◌, List, ◌∷◌, drop, length, map, get_or, Bor, ap, sym, ◌∙◌, add-one}
use Rattle.std.proofs.Math.Seq.{drop-cons}
use Rattle.yl_indentation.specs.declared.measure.Measure.{Measure}
use Rattle.yl_indentation.specs.Measures.{and_later, measure_of}
use Rattle.yl_indentation.proofs.Measured.{and_later_assoc, measure_is_local}
use Rattle.yl_sections.specs.Kept.{KeptValue}
use Rattle.yl_lint.specs.TextReport.{facts_in_sections}

section_at : (ks : List (Bor KeptValue)) (i : ℕ) (k : Bor KeptValue) → i < length ks → k ≡ get_or ks i k → map (λ x. x.now) (drop i ks) ≡ k.now ∷ map (λ x. x.now) (drop (i + 1) ks)
section_at ks i k l e = rw (add-one i) (ap (map (λ (x : Bor KeptValue). x.now)) (drop-cons ks i k l) ∙ ap (λ (x : Bor KeptValue). x.now ∷ map (λ (y : Bor KeptValue). y.now) (drop (suc i) ks)) (sym e))

pub measure_more : (ks : List (Bor KeptValue)) (i : ℕ) (k : Bor KeptValue) (m new total : Measure) → i < length ks → k ≡ get_or ks i k → new ≡ and_later m (measure_of k.now.facts)
    → and_later m (measure_of (facts_in_sections (map (λ x. x.now) (drop i ks)))) ≡ total → and_later new (measure_of (facts_in_sections (map (λ x. x.now) (drop (i + 1) ks)))) ≡ total
measure_more ks i k m new total l e is now =
    let more = facts_in_sections (map (λ (x : Bor KeptValue). x.now) (drop (i + 1) ks)) in
    rw is
    (and_later_assoc m (measure_of k.now.facts) (measure_of more)
    ∙ (ap (and_later m) (sym (measure_is_local k.now.facts more))
    ∙ (ap (λ (xs : List KeptValue). and_later m (measure_of (facts_in_sections xs))) (sym (section_at ks i k l e)) ∙ now)))
