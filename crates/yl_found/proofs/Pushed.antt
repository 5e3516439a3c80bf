-- What is found in sections one after another, by the measure of all their facts.
use Rattle.std.proofs.Common.{◌≡◌, ℕ, ◌+◌, ◌<◌, ◌≤◌, List, ◌++◌, length, drop, get_or, ap, sym, ◌∙◌, append-nil, append_assoc}
use Rattle.yl_text.specs.Finding.{FindingValue}
use Rattle.yl_indentation.specs.declared.measure.Measure.{Measure}
use Rattle.yl_indentation.specs.declared.options.IndentationOptions.{IndentationOptions}
use Rattle.yl_indentation.specs.Measures.{and_later, measure_of}
use Rattle.yl_sections.specs.Kept.{KeptValue}
use Rattle.yl_lint.specs.TextReport.{findings_in_section, findings_in_sections}
use Rattle.yl_summary.proofs.Walks.{none_left}
use Rattle.yl_edited_lines.proofs.Pushed.{one_at}

module _ (o : IndentationOptions) (whole : Measure) (line next : ℕ) (here later : Measure) (old new total : List FindingValue) (ks : List KeptValue) (i : ℕ) where
  pub pushed_whole : (k : KeptValue) → i < length ks → k ≡ get_or ks i k → next ≡ line + k.rows → later ≡ and_later here (measure_of k.facts)
      → new ≡ old ++ findings_in_section o whole line here k → old ++ findings_in_sections o whole line here (drop i ks) ≡ total → new ++ findings_in_sections o whole next later (drop (i + 1) ks) ≡ total
  pushed_whole k l is row_is later_is put all =
      let one = findings_in_section o whole line here k in
      let rest = drop (i + 1) ks in
      ap (λ (fs : List FindingValue). fs ++ findings_in_sections o whole next later rest) put
      ∙ (append_assoc old one (findings_in_sections o whole next later rest)
      ∙ (ap (λ (n : ℕ). old ++ (one ++ findings_in_sections o whole n later rest)) row_is
      ∙ (ap (λ (m : Measure). old ++ (one ++ findings_in_sections o whole (line + k.rows) m rest)) later_is
      ∙ (ap (λ (xs : List KeptValue). old ++ findings_in_sections o whole line here xs) (sym (one_at ks i k l is)) ∙ all))))

  pub pushed_all : length ks ≤ i → old ++ findings_in_sections o whole line here (drop i ks) ≡ total → old ≡ total
  pushed_all l all = sym (append-nil old) ∙ (ap (λ (xs : List KeptValue). old ++ findings_in_sections o whole line here xs) (sym (none_left ks i l)) ∙ all)
