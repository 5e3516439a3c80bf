-- What is found in sections one after another, put behind what was found before, and moved with its lines.
use Rattle.std.proofs.Common.{◌≡◌, ℕ, suc, ◌+◌, ◌<◌, List, [], ◌∷◌, ◌++◌, length, map, drop, get_or, refl, ap, sym, subst, ◌∙◌, arith, add-one, append_assoc}
use Rattle.std.proofs.Math.Seq.{drop-cons}
use Rattle.std.proofs.lemmas.List.{map-append}
use Rattle.yl_text.specs.Finding.{FindingValue}
use Rattle.yl_text.specs.Lines.{RowValue}
use Rattle.yl_indentation.specs.declared.fact.Fact.{Fact}
use Rattle.yl_indentation.specs.declared.measure.Measure.{Measure}
use Rattle.yl_indentation.specs.declared.options.IndentationOptions.{IndentationOptions}
use Rattle.yl_indentation.specs.Measures.{and_later, measure_of}
use Rattle.yl_indentation.specs.Onward.{CountsEntriesOnceSeen, onward_problems}
use Rattle.yl_indentation.proofs.Onward.{both_count, facts_count, problems_of_these}
use Rattle.yl_settings.specs.declared.options.RuleOptions.{RuleOptions}
use Rattle.yl_sections.specs.Kept.{KeptValue}
use Rattle.yl_lint.specs.Onward.{onward_in_section, onward_in_sections}
use Rattle.yl_lint.specs.TextReport.{findings_in_section, moved}
use Rattle.yl_edited_lines.specs.There.{found_there, lines_there}
use Rattle.yl_edited_lines.specs.declared.there.Ends.{Ends}

pub one_at : (ks : List KeptValue) (i : ℕ) (k : KeptValue) → i < length ks → k ≡ get_or ks i k → drop i ks ≡ k ∷ drop (i + 1) ks
one_at ks i k l e = rw (add-one i) (drop-cons ks i k l ∙ ap (λ (x : KeptValue). x ∷ drop (suc i) ks) (sym e))

-- ---- a section, by the facts up to each place

pub counts_more : (before more later : Measure) (fs : List Fact) → later ≡ and_later before more → more ≡ measure_of fs → CountsEntriesOnceSeen before → CountsEntriesOnceSeen later
counts_more before more later fs is measured_is counts =
    subst (λ (m : Measure). CountsEntriesOnceSeen m) (sym (is ∙ ap (and_later before) measured_is)) (both_count before (measure_of fs) counts (facts_count fs))

pub section_onward : (o : IndentationOptions) (upto : Measure) (line : ℕ) (before : Measure) (k : KeptValue) → upto ≡ and_later before (measure_of k.facts) → CountsEntriesOnceSeen before
    → findings_in_section o upto line before k ≡ onward_in_section o line before k
section_onward o upto line before k is counts =
    ap (λ (m : Measure). findings_in_section o m line before k) is ∙ ap (λ (fs : List FindingValue). map (moved line) (k.found ++ fs)) (problems_of_these o before k.facts counts)

-- what is found in one more section is put behind the rest
pushed_more : (o : IndentationOptions) (line next : ℕ) (here later : Measure) (old new : List FindingValue) (k : KeptValue) (ks : List KeptValue) → new ≡ old ++ onward_in_section o line here k → next ≡ line + k.rows → later ≡ and_later here (measure_of k.facts)
    → new ++ onward_in_sections o next later ks ≡ old ++ onward_in_sections o line here (k ∷ ks)
pushed_more o line next here later old new k ks put row_is later_is =
    let one = onward_in_section o line here k in
    ap (λ (fs : List FindingValue). fs ++ onward_in_sections o next later ks) put
    ∙ (append_assoc old one (onward_in_sections o next later ks)
    ∙ (ap (λ (n : ℕ). old ++ (one ++ onward_in_sections o n later ks)) row_is
    ∙ ap (λ (m : Measure). old ++ (one ++ onward_in_sections o (line + k.rows) m ks)) later_is))

module _ (o : IndentationOptions) (line next : ℕ) (here later : Measure) (old new total : List FindingValue) (ks : List KeptValue) (i : ℕ) (k : KeptValue) (l : i < length ks) (is : k ≡ get_or ks i k)
    (row_is : next ≡ line + k.rows) (later_is : later ≡ and_later here (measure_of k.facts)) where
  pub pushed_next : new ≡ old ++ onward_in_section o line here k → old ++ onward_in_sections o line here (drop i ks) ≡ total → new ++ onward_in_sections o next later (drop (i + 1) ks) ≡ total
  pushed_next put whole =
      pushed_more o line next here later old new k (drop (i + 1) ks) put row_is later_is ∙ (ap (λ (xs : List KeptValue). old ++ onward_in_sections o line here xs) (sym (one_at ks i k l is)) ∙ whole)

-- ---- so many lines further down

same_place : (n line there : ℕ) (f : FindingValue) → there ≡ n + line → moved there f ≡ moved n (moved line f)
same_place n line there f e =
    let l : there + f.line ≡ n + (line + f.line) = omega (arith, e) in
    λ i. record { line = l i; column = f.column; rule = f.rule; message = f.message }

pub all_moved : (n line there : ℕ) (fs : List FindingValue) → there ≡ n + line → map (moved there) fs ≡ map (moved n) (map (moved line) fs)
all_moved n line there [] e = refl
all_moved n line there (f ∷ fs) e =
    ap (λ (g : FindingValue). g ∷ map (moved there) fs) (same_place n line there f e) ∙ ap (λ (gs : List FindingValue). moved n (moved line f) ∷ gs) (all_moved n line there fs e)

pub sections_moved : (o : IndentationOptions) (before : Measure) (n line there : ℕ) (ks : List KeptValue) → there ≡ n + line
    → onward_in_sections o there before ks ≡ map (moved n) (onward_in_sections o line before ks)
sections_moved o before n line there [] e = refl
sections_moved o before n line there (k ∷ ks) e =
    let later = and_later before (measure_of k.facts) in
    ap (λ (fs : List FindingValue). onward_in_section o there before k ++ fs) (sections_moved o later n (line + k.rows) (there + k.rows) ks (omega (arith, e)))
    ∙ (ap (λ (fs : List FindingValue). fs ++ map (moved n) (onward_in_sections o (line + k.rows) later ks)) (all_moved n line there (k.found ++ onward_problems o before k.facts) e)
    ∙ sym (map-append (moved n) (onward_in_section o line before k) (onward_in_sections o (line + k.rows) later ks)))

-- what is found in lines and in sections that stand so many lines further down
pub there_moved : (o : RuleOptions) (e : Ends) (before : Measure) (down : ℕ) (rows : List RowValue) (ks : List KeptValue)
    → map (moved down) (lines_there o e rows) ++ onward_in_sections o.indentation down before ks ≡ map (moved down) (found_there o e before rows ks)
there_moved o e before down rows ks =
    ap (λ (fs : List FindingValue). map (moved down) (lines_there o e rows) ++ fs) (sections_moved o.indentation before down 0 down ks (omega arith))
    ∙ sym (map-append (moved down) (lines_there o e rows) (onward_in_sections o.indentation 0 before ks))

-- the same, put together
pub put_together : (o : RuleOptions) (e : Ends) (before : Measure) (down : ℕ) (rows : List RowValue) (ks : List KeptValue) (p : IndentationOptions) (first last : List FindingValue)
    → first ≡ map (moved down) (lines_there o e rows) → p ≡ o.indentation → last ≡ first ++ onward_in_sections p down before ks → last ≡ map (moved down) (found_there o e before rows ks)
put_together o e before down rows ks p first last in_lines options all =
    all
    ∙ (ap (λ (fs : List FindingValue). fs ++ onward_in_sections p down before ks) in_lines
    ∙ (ap (λ (q : IndentationOptions). map (moved down) (lines_there o e rows) ++ onward_in_sections q down before ks) options ∙ there_moved o e before down rows ks))
