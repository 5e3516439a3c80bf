-- What is found below sections, behind facts of either of two measures, and the measure of all then.
use Rattle.std.proofs.Common.{◌≡◌, ℕ, ◌+◌, ◌<◌, ◌≤◌, List, ◌∷◌, ◌++◌, length, map, drop, get_or, refl, ap, sym, subst, ◌∙◌}
use Rattle.yl_text.specs.Finding.{FindingValue}
use Rattle.yl_indentation.specs.declared.measure.Measure.{Measure}
use Rattle.yl_indentation.specs.Measures.{and_later, measure_of}
use Rattle.yl_indentation.specs.Onward.{AreJudgedAlike}
use Rattle.yl_sections.specs.Kept.{KeptValue}
use Rattle.yl_lint.specs.Onward.{onward_in_section, onward_in_sections}
use Rattle.yl_lint.specs.TextReport.{moved}
use Rattle.yl_patch.specs.Seen.{AreFoundAlike}
use Rattle.yl_summary.proofs.Walks.{none_left}
use Rattle.yl_edited_lines.proofs.Pushed.{one_at}

-- ---- sections behind facts of either measure

pub same_alike : (one other : Measure) (ks : List KeptValue) → one ≡ other → AreFoundAlike one other ks
same_alike one other ks e = λ o line. ap (λ (m : Measure). onward_in_sections o line m ks) e

pub alike_as : (one here other there : Measure) (ks : List KeptValue) → one ≡ here → other ≡ there → AreFoundAlike one other ks → AreFoundAlike here there ks
alike_as one here other there ks e f same = λ o line.
    ap (λ (m : Measure). onward_in_sections o line m ks) (sym e) ∙ (same o line ∙ ap (λ (m : Measure). onward_in_sections o line m ks) f)

alike_more : (k : KeptValue) (ks : List KeptValue) (one other next after : Measure) → next ≡ and_later one (measure_of k.facts) → after ≡ and_later other (measure_of k.facts) → AreJudgedAlike one other k.facts → AreFoundAlike next after ks
    → AreFoundAlike one other (k ∷ ks)
alike_more k ks one other next after next_is after_is here later = λ o line.
    ap (λ (fs : List FindingValue). map (moved line) (k.found ++ fs) ++ onward_in_sections o (line + k.rows) (and_later one (measure_of k.facts)) ks) (here o)
    ∙ ap (λ (fs : List FindingValue). onward_in_section o line other k ++ fs)
    (ap (λ (m : Measure). onward_in_sections o (line + k.rows) m ks) (sym next_is) ∙ (later o (line + k.rows) ∙ ap (λ (m : Measure). onward_in_sections o (line + k.rows) m ks) after_is))

module _ (ks : List KeptValue) (i : ℕ) (k : KeptValue) (l : i < length ks) (is : k ≡ get_or ks i k) (one other next after : Measure)
    (next_at : next ≡ and_later one (measure_of k.facts)) (after_at : after ≡ and_later other (measure_of k.facts)) (here : AreJudgedAlike one other k.facts) where
  pub found_next : AreFoundAlike next after (drop (i + 1) ks) → AreFoundAlike one other (drop i ks)
  found_next later =
      subst (λ (xs : List KeptValue). AreFoundAlike one other xs) (sym (one_at ks i k l is)) (alike_more k (drop (i + 1) ks) one other next after next_at after_at here later)

-- no section is left
pub alike_none : (one other : Measure) (ks : List KeptValue) (i : ℕ) → length ks ≤ i → AreFoundAlike one other (drop i ks)
alike_none one other ks i l = subst (λ (xs : List KeptValue). AreFoundAlike one other xs) (sym (none_left ks i l)) (λ o line. refl)
