-- Walks over sections: lists of them, their lines and the measure of their facts.
use Rattle.std.proofs.Common.{◌≡◌, ℕ, ◌+◌, ◌-◌, ◌<◌, ◌≤◌, List, [], ◌∷◌, ◌++◌, length, take, drop, get_or, refl, ap, sym, ◌∙◌, arith, rules, append_assoc}
use Rattle.std.proofs.lemmas.List.{same_lists, places, take_more}
use Rattle.yl_indentation.specs.declared.fact.Fact.{Fact}
use Rattle.yl_indentation.specs.declared.measure.Measure.{Measure}
use Rattle.yl_indentation.specs.Measures.{and_later, measure_of}
use Rattle.yl_indentation.proofs.Measured.{measure_is_local}
use Rattle.yl_sections.specs.Kept.{KeptValue, rows_kept}
use Rattle.yl_lint.specs.TextReport.{facts_in_sections}

-- ---- one section more

pub one_more : (ks : List KeptValue) (i : ℕ) (k : KeptValue) → i < length ks → k ≡ get_or ks i k → take (i + 1) ks ≡ take i ks ++ k ∷ []
one_more ks i k l e = take_more ks i k l ∙ ap (λ (x : KeptValue). take i ks ++ x ∷ []) (sym e)

pub none_left : (ks : List KeptValue) (i : ℕ) → length ks ≤ i → drop i ks ≡ []
none_left ks i l = same_lists _ _ (search (rules, places)) (λ n d o. grind (arith, places))

-- ---- their lines

pub rows_both : (ks ls : List KeptValue) → rows_kept (ks ++ ls) ≡ rows_kept ks + rows_kept ls
rows_both [] ls = omega arith
rows_both (k ∷ ks) ls = let e = rows_both ks ls in omega (arith, e)

pub rows_until : (ks : List KeptValue) (from end : ℕ) → from ≤ end → end ≤ length ks → rows_kept (take end ks) ≡ rows_kept (take from ks) + rows_kept (take (end - from) (drop from ks))
rows_until ks from end l h =
    let parts : take end ks ≡ take from ks ++ take (end - from) (drop from ks) = same_lists _ _ (search (rules, places)) (λ n d o. grind (arith, places)) in
    ap rows_kept parts ∙ rows_both (take from ks) (take (end - from) (drop from ks))

-- ---- the measure of their facts

pub facts_both : (ks ls : List KeptValue) → facts_in_sections (ks ++ ls) ≡ facts_in_sections ks ++ facts_in_sections ls
facts_both [] ls = refl
facts_both (k ∷ ks) ls = ap (λ (fs : List Fact). k.facts ++ fs) (facts_both ks ls) ∙ sym (append_assoc k.facts (facts_in_sections ks) (facts_in_sections ls))

abbrev pub measured : List KeptValue → Measure
measured ks = measure_of (facts_in_sections ks)

pub measured_both : (ks ls : List KeptValue) → measured (ks ++ ls) ≡ and_later (measured ks) (measured ls)
measured_both ks ls = ap measure_of (facts_both ks ls) ∙ measure_is_local (facts_in_sections ks) (facts_in_sections ls)
