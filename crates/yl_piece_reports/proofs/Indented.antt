-- What the rule indentation finds in sections: it is found in their facts, one after another.
use Rattle.std.proofs.Common.{◌≡◌, ℕ, ◌+◌, Bool, true, false, List, [], ◌∷◌, ◌++◌, map, Option, Some, None, refl, ap, sym, ◌∙◌, arith, append_assoc, if◌then◌else◌}
use Rattle.std.proofs.lemmas.List.{map-append}
use Rattle.yl_text.specs.declared.finding.RuleId.{RuleId}
use Rattle.yl_text.specs.Finding.{FindingValue, one_finding}
use Rattle.yl_indentation.specs.declared.fact.Expectation.{Expectation}
use Rattle.yl_indentation.specs.declared.fact.Expectation.TheVariants.{At, Beyond, EntryIn}
use Rattle.yl_indentation.specs.declared.fact.Fact.{Fact}
use Rattle.yl_indentation.specs.declared.measure.Measure.{Measure}
use Rattle.yl_indentation.specs.declared.options.IndentationOptions.{IndentationOptions}
use Rattle.yl_indentation.specs.declared.options.IndentSequences.{IndentSequences}
use Rattle.yl_indentation.specs.FactsAlike.{fact_below}
use Rattle.yl_indentation.specs.Measures.{and_later, is_flush, measure_at, measure_of}
use Rattle.yl_indentation.specs.Onward.{onward_problems}
use Rattle.yl_indentation.specs.Problems.{finding_at, finding_by, finding_by_width, is_indented, not_as_expected, width_by_spaces}
use Rattle.yl_indentation.proofs.Measured.{and_later_assoc, and_later_unknown}
use Rattle.yl_sections.specs.Kept.{KeptValue}
use Rattle.yl_lint.specs.Onward.{indentation_in_sections, onward_in_section, onward_in_sections}
use Rattle.yl_lint.specs.TextReport.{moved}
use Rattle.yl_lint.proofs.Arranged.{AreSame}
use Rattle.yl_piece_reports.specs.Cuts.{items_in}
use Rattle.yl_piece_reports.proofs.CutFound.{found_in}
use Rattle.yl_piece_reports.proofs.CutItems.{AreCut, all_facts, flat}
use Rattle.yl_piece_reports.proofs.Same.{same_both, same_crossed, same_is, same_then}

-- ---- facts one after another

pub problems_both : (o : IndentationOptions) (before : Measure) (fs gs : List Fact)
    → onward_problems o before (fs ++ gs) ≡ onward_problems o before fs ++ onward_problems o (and_later before (measure_of fs)) gs
problems_both o before [] gs = ap (λ (m : Measure). onward_problems o m gs) (sym (and_later_unknown before))
problems_both o before (f ∷ fs) gs =
    let at = measure_at f.column f.expectation in
    let here = and_later before at in
    let found = finding_at o here (is_flush here) f in
    ap (λ (zs : List FindingValue). found ++ zs) (problems_both o here fs gs)
    ∙ (ap (λ (m : Measure). found ++ (onward_problems o here fs ++ onward_problems o m gs)) (and_later_assoc before at (measure_of fs))
    ∙ sym (append_assoc found (onward_problems o here fs) (onward_problems o (and_later before (measure_of (f ∷ fs))) gs)))

-- ---- facts further down

module _ (n : ℕ) where
  unless_down : (l column : ℕ) (r : RuleId) (m : List ℕ) (b : Bool) → (if b then [] else one_finding r (n + l + 1) column m) ≡ map (moved n) (if b then [] else one_finding r (l + 1) column m)
  unless_down l column r m true = refl
  unless_down l column r m false = let e : n + l + 1 ≡ n + (l + 1) = omega arith in ap (λ k. one_finding r k column m) e

  pub when_down : (l column : ℕ) (r : RuleId) (m : List ℕ) (b : Bool) → (if b then one_finding r (n + l + 1) column m else []) ≡ map (moved n) (if b then one_finding r (l + 1) column m else [])
  when_down l column r m true = let e : n + l + 1 ≡ n + (l + 1) = omega arith in ap (λ k. one_finding r k column m) e
  when_down l column r m false = refl

  width_down : (w : Option ℕ) (base : ℕ) (f : Fact) → finding_by_width w base (fact_below n f) ≡ map (moved n) (finding_by_width w base f)
  width_down None base f = when_down f.line _ _ _ _
  width_down (Some w) base f = unless_down f.line _ _ _ _

  either_down : (b : Bool) (xs ys xs' ys' : List FindingValue) → xs ≡ map (moved n) xs' → ys ≡ map (moved n) ys' → (if b then xs else ys) ≡ map (moved n) (if b then xs' else ys')
  either_down true xs ys xs' ys' e g = e
  either_down false xs ys xs' ys' e g = g

  by_down : (c : IndentSequences) (flush : Bool) (w : Option ℕ) (f : Fact) (e : Expectation) → finding_by c flush w (fact_below n f) e ≡ map (moved n) (finding_by c flush w f e)
  by_down c flush w f (At e) = unless_down f.line _ _ _ _
  by_down c flush w f (Beyond base) = width_down w base f
  by_down c flush w f (EntryIn base) =
      either_down _ (finding_by_width w base (fact_below n f)) (not_as_expected base (fact_below n f)) (finding_by_width w base f) (not_as_expected base f) (width_down w base f) (unless_down f.line _ _ _ _)

  finding_down : (o : IndentationOptions) (here : Measure) (flush : Bool) (f : Fact) → finding_at o here flush (fact_below n f) ≡ map (moved n) (finding_at o here flush f)
  finding_down o here flush f = by_down o.indent_sequences flush (width_by_spaces o.spaces (is_indented o.indent_sequences flush false) here) f f.expectation

  pub problems_down : (o : IndentationOptions) (before : Measure) (fs : List Fact) → onward_problems o before (map (fact_below n) fs) ≡ map (moved n) (onward_problems o before fs)
  problems_down o before [] = refl
  problems_down o before (f ∷ fs) =
      let here = and_later before (measure_at f.column f.expectation) in
      let found = finding_at o here (is_flush here) f in
      ap (λ (zs : List FindingValue). zs ++ onward_problems o here (map (fact_below n) fs)) (finding_down o here (is_flush here) f)
      ∙ (ap (λ (zs : List FindingValue). map (moved n) found ++ zs) (problems_down o here fs) ∙ sym (map-append (moved n) found (onward_problems o here fs)))

  pub measure_down : (fs : List Fact) → measure_of (map (fact_below n) fs) ≡ measure_of fs
  measure_down [] = refl
  measure_down (f ∷ fs) = ap (and_later (measure_at f.column f.expectation)) (measure_down fs)

-- ---- sections one after another

abbrev pub facts_in : ℕ → List KeptValue → List Fact
facts_in line ks = items_in fact_below (λ k. k.facts) line ks

indented_by_facts : (o : IndentationOptions) (line : ℕ) (before : Measure) (ks : List KeptValue) → indentation_in_sections o line before ks ≡ onward_problems o before (facts_in line ks)
indented_by_facts o line before [] = refl
indented_by_facts o line before (k ∷ ks) =
    let down = map (fact_below line) k.facts in
    let next = and_later before (measure_of k.facts) in
    let more = facts_in (line + k.rows) ks in
    ap (λ (zs : List FindingValue). map (moved line) (onward_problems o before k.facts) ++ zs) (indented_by_facts o (line + k.rows) next ks)
    ∙ (ap (λ (zs : List FindingValue). zs ++ onward_problems o next more) (sym (problems_down line o before k.facts))
    ∙ (ap (λ (m : Measure). onward_problems o before down ++ onward_problems o (and_later before m) more) (sym (measure_down line k.facts))
    ∙ sym (problems_both o before down more)))

pub all_indented : (o : IndentationOptions) (line : ℕ) (before : Measure) (ks : List KeptValue) (cs : List (List KeptValue)) → AreCut ks cs
    → indentation_in_sections o line before (flat cs) ≡ indentation_in_sections o line before ks
all_indented o line before ks cs h =
    indented_by_facts o line before (flat cs) ∙ (ap (onward_problems o before) (all_facts line ks cs h) ∙ sym (indented_by_facts o line before ks))

-- what is found in sections, apart from the rule indentation and by it
pub found_apart : (o : IndentationOptions) (line : ℕ) (before : Measure) (ks : List KeptValue)
    → AreSame (onward_in_sections o line before ks) (found_in line ks ++ indentation_in_sections o line before ks)
found_apart o line before [] = same_is [] [] refl
found_apart o line before (k ∷ ks) =
    let next = and_later before (measure_of k.facts) in
    let found = map (moved line) k.found in
    let indented = map (moved line) (onward_problems o before k.facts) in
    let more = found_in (line + k.rows) ks in
    let later = indentation_in_sections o (line + k.rows) next ks in
    same_then (onward_in_sections o line before (k ∷ ks)) ((found ++ indented) ++ (more ++ later)) ((found ++ more) ++ (indented ++ later))
    (same_both (onward_in_section o line before k) (onward_in_sections o (line + k.rows) next ks) (found ++ indented) (more ++ later)
    (same_is (onward_in_section o line before k) (found ++ indented) (map-append (moved line) k.found (onward_problems o before k.facts)))
    (found_apart o (line + k.rows) next ks))
    (same_crossed found indented more later)
