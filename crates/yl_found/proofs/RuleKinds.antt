-- What is found in lines is of rules on lines, and what is found in sections of rules on sections.
use Rattle.std.proofs.Common.{◌≡◌, ℕ, ◌+◌, ◌-◌, ◌==◌, Bool, true, false, List, [], ◌∷◌, ◌++◌, length, map, Option, Some, None, refl, sym, if◌then◌else◌}
use Rattle.std.specs.Prelude.{◌&&◌, ◌||◌, not, slice_get}
use Rattle.std.specs.List.{AllByRecursion, prefix_len}
use Rattle.std.specs.Str.{chars}
use Rattle.std.proofs.lemmas.Bool.{and_parts}
use Rattle.yl_text.proofs.Every.{all_both, all_then}
use Rattle.yl_text.specs.Character.{starts_by}
use Rattle.yl_text.specs.Finding.{FindingValue, one_finding, at_each}
use Rattle.yl_text.specs.Lines.{RowValue}
use Rattle.yl_text.specs.declared.finding.RuleId.{RuleId}
use Rattle.yl_text.specs.declared.finding.RuleId.TheVariants.{Indentation, Syntax}
use Rattle.yl_indentation.specs.declared.fact.Expectation.{Expectation}
use Rattle.yl_indentation.specs.declared.fact.Expectation.TheVariants.{At, Beyond, EntryIn}
use Rattle.yl_indentation.specs.declared.fact.Fact.{Fact}
use Rattle.yl_indentation.specs.declared.measure.Measure.{Measure}
use Rattle.yl_indentation.specs.declared.options.IndentationOptions.{IndentationOptions}
use Rattle.yl_indentation.specs.declared.options.IndentSequences.{IndentSequences}
use Rattle.yl_indentation.specs.Measures.{and_later, measure_at, measure_of, is_flush}
use Rattle.yl_indentation.specs.Onward.{onward_problems}
use Rattle.yl_indentation.specs.Problems.{finding_at, finding_by, finding_by_width, is_indented, not_as_expected, width_by_spaces}
use Rattle.yl_rules.specs.declared.empty_lines.EmptyLinesOptions.{EmptyLinesOptions}
use Rattle.yl_rules.specs.declared.new_lines.NewLine.{NewLine}
use Rattle.yl_rules.specs.declared.options.RowOptions.{RowOptions}
use Rattle.yl_rules.specs.EmptyLines.{is_break_only, is_text_end, too_many_blank_lines, empty_lines_at, empty_lines, run_findings_of}
use Rattle.yl_rules.specs.EndOfFile.{end_of_file_at, end_of_file}
use Rattle.yl_rules.specs.LineLength.{line_length}
use Rattle.yl_rules.specs.NewLines.{new_lines}
use Rattle.yl_rules.specs.Rows.{row_findings}
use Rattle.yl_rules.specs.Runs.{run_findings}
use Rattle.yl_rules.specs.TrailingSpaces.{trailing_spaces}
use Rattle.yl_settings.specs.declared.options.RuleOptions.{RuleOptions}
use Rattle.yl_report.specs.Report.{is_syntax}
use Rattle.yl_sections.specs.Kept.{KeptValue, items_if}
use Rattle.yl_lint.specs.Onward.{onward_in_section, onward_in_sections}
use Rattle.yl_lint.specs.TextReport.{findings_from, findings_in_lines, moved}
use Rattle.yl_edited_lines.specs.There.{lines_there}
use Rattle.yl_edited_lines.specs.declared.there.Ends.{Ends}
use Rattle.yl_problem_lists.specs.Showing.{is_indentation, is_of_lines}
use Rattle.yl_found.specs.Plain.{IsPlain, is_kept_rule, is_of_section}

-- ---- rules

pub not_so : (b : Bool) → not b ≡ true → b ≡ false
not_so true h = sym h
not_so false h = refl

pub section_not_lines : (rule : RuleId) → is_of_section rule ≡ true → is_of_lines rule ≡ false
section_not_lines rule h = not_so (is_of_lines rule) (and_parts (not (is_of_lines rule)) (not (is_syntax rule)) h).0

pub section_no_fault : (rule : RuleId) → is_of_section rule ≡ true → is_syntax rule ≡ false
section_no_fault rule h = not_so (is_syntax rule) (and_parts (not (is_of_lines rule)) (not (is_syntax rule)) h).1

pub lines_no_fault : (rule : RuleId) → is_of_lines rule ≡ true → is_syntax rule ≡ false
lines_no_fault Syntax h = sym h
lines_no_fault _ h = refl

-- each is of such a rule
abbrev pub AreOf : (RuleId → Bool) → List FindingValue → Type 0
AreOf kind fs = AllByRecursion (λ f. kind f.rule ≡ true) fs

module _ (kind : RuleId → Bool) where
  both_of : (xs ys : List FindingValue) → AreOf kind xs → AreOf kind ys → AreOf kind (xs ++ ys)
  both_of xs ys h k = all_both (λ (f : FindingValue). kind f.rule ≡ true) xs ys h k

  unless_of : (rule : RuleId) (line column : ℕ) (m : List ℕ) (b : Bool) → kind rule ≡ true → AreOf kind (if b then [] else one_finding rule line column m)
  unless_of rule line column m true h = tt
  unless_of rule line column m false h = (h, tt)

  when_of : (rule : RuleId) (line column : ℕ) (m : List ℕ) (b : Bool) → kind rule ≡ true → AreOf kind (if b then one_finding rule line column m else [])
  when_of rule line column m true h = (h, tt)
  when_of rule line column m false h = tt

  pub moved_of : (n : ℕ) (fs : List FindingValue) → AreOf kind fs → AreOf kind (map (moved n) fs)
  moved_of n [] h = tt
  moved_of n (f ∷ fs) h = (h.0, moved_of n fs h.1)

-- ---- lines

row_of : (o : RowOptions) (line : ℕ) (row : RowValue) → AreOf is_of_lines (row_findings o line row)
row_of o line row =
    both_of is_of_lines (trailing_spaces line (chars row.text)) (line_length o line (chars row.text)) (unless_of is_of_lines _ line _ _ _ refl) (unless_of is_of_lines _ line _ _ _ refl)

rows_of : (o : RowOptions) (line : ℕ) (rows : List RowValue) → AreOf is_of_lines (findings_from o line rows)
rows_of o line [] = tt
rows_of o line (row ∷ rows) = both_of is_of_lines (row_findings o line row) (findings_from o (line + 1) rows) (row_of o line row) (rows_of o (line + 1) rows)

run_of : (o : EmptyLinesOptions) (run line : ℕ) (on at_end : Bool) → AreOf is_of_lines (if on then [] else run_findings_of o run line at_end)
run_of o run line true at_end = tt
run_of o run line false at_end = judged (line == 1 && at_end)
  where
    judged : (b : Bool) → AreOf is_of_lines (if b then [] else too_many_blank_lines run (if at_end then o.max_end else if run == line then o.max_start else o.max) line)
    judged true = tt
    judged false = unless_of is_of_lines _ line _ _ _ refl

empty_lines_of : (o : EmptyLinesOptions) (before rows : List RowValue) → AreOf is_of_lines (at_each (empty_lines_at o) before rows)
empty_lines_of o before [] = tt
empty_lines_of o before (row ∷ rows) =
    both_of is_of_lines (empty_lines_at o before row rows) (at_each (empty_lines_at o) (row ∷ before) rows)
    (run_of o (prefix_len is_break_only (row ∷ before)) (length before + 1) (prefix_len is_break_only (row ∷ before) == 0 || starts_by is_break_only rows) (is_text_end rows)) (empty_lines_of o (row ∷ before) rows)

new_lines_of : (wanted : NewLine) (rows : List RowValue) → AreOf is_of_lines (new_lines wanted rows)
new_lines_of wanted [] = tt
new_lines_of wanted (row ∷ rows) = when_of is_of_lines _ 1 _ _ _ refl

end_of : (line : ℕ) (o : Option RowValue) → AreOf is_of_lines (end_of_file_at line o)
end_of line None = tt
end_of line (Some row) = unless_of is_of_lines _ line _ _ _ refl

pub in_lines_of : (o : RuleOptions) (rows : List RowValue) → AreOf is_of_lines (findings_in_lines o rows)
in_lines_of o rows =
    both_of is_of_lines (findings_from o.row 1 rows) (run_findings o.run rows) (rows_of o.row 1 rows)
    (both_of is_of_lines (new_lines o.run.new_line rows) (empty_lines o.run.empty_lines rows ++ end_of_file rows) (new_lines_of o.run.new_line rows)
    (both_of is_of_lines (empty_lines o.run.empty_lines rows) (end_of_file rows) (empty_lines_of o.run.empty_lines [] rows) (end_of (length rows) (slice_get rows (length rows - 1)))))

items_of : (b : Bool) (fs : List FindingValue) → AreOf is_of_lines fs → AreOf is_of_lines (items_if b fs)
items_of true fs h = h
items_of false fs h = tt

-- in some lines of a text
pub lines_there_of : (o : RuleOptions) (e : Ends) (rows : List RowValue) → AreOf is_of_lines (lines_there o e rows)
lines_there_of o e rows =
    let n = new_lines o.run.new_line rows in
    let z = end_of_file rows in
    both_of is_of_lines (findings_from o.row 1 rows) (items_if e.begins n ++ (empty_lines o.run.empty_lines rows ++ items_if e.ends z)) (rows_of o.row 1 rows)
    (both_of is_of_lines (items_if e.begins n) (empty_lines o.run.empty_lines rows ++ items_if e.ends z) (items_of e.begins n (new_lines_of o.run.new_line rows))
    (both_of is_of_lines (empty_lines o.run.empty_lines rows) (items_if e.ends z) (empty_lines_of o.run.empty_lines [] rows) (items_of e.ends z (end_of (length rows) (slice_get rows (length rows - 1))))))

-- ---- sections

module _ (kind : RuleId → Bool) (on : kind Indentation ≡ true) where
  by_width_of : (base : ℕ) (w : Option ℕ) (f : Fact) → AreOf kind (finding_by_width w base f)
  by_width_of base None f = when_of kind _ (f.line + 1) _ _ _ on
  by_width_of base (Some w) f = unless_of kind _ (f.line + 1) _ _ _ on

  either_of : (b : Bool) (xs ys : List FindingValue) → AreOf kind xs → AreOf kind ys → AreOf kind (if b then xs else ys)
  either_of true xs ys h k = h
  either_of false xs ys h k = k

  by_of : (c : IndentSequences) (flush : Bool) (w : Option ℕ) (f : Fact) (e : Expectation) → AreOf kind (finding_by c flush w f e)
  by_of c flush w f (At e) = unless_of kind _ (f.line + 1) _ _ _ on
  by_of c flush w f (Beyond base) = by_width_of base w f
  by_of c flush w f (EntryIn base) = either_of _ (finding_by_width w base f) (not_as_expected base f) (by_width_of base w f) (unless_of kind _ (f.line + 1) _ _ _ on)

  pub indented_of : (o : IndentationOptions) (before : Measure) (fs : List Fact) → AreOf kind (onward_problems o before fs)
  indented_of o before [] = tt
  indented_of o before (f ∷ fs) =
      let here = and_later before (measure_at f.column f.expectation) in
      both_of kind (finding_at o here (is_flush here) f) (onward_problems o here fs) (by_of o.indent_sequences (is_flush here) (width_by_spaces o.spaces (is_indented o.indent_sequences (is_flush here) false) here) f f.expectation) (indented_of o here fs)

kept_of_section : (fs : List FindingValue) → AreOf is_kept_rule fs → AreOf is_of_section fs
kept_of_section fs h = all_then (λ (f : FindingValue). is_kept_rule f.rule ≡ true) (λ f. is_of_section f.rule ≡ true) fs (λ f e. (and_parts (is_of_section f.rule) (not (is_indentation f.rule)) e).0) h

pub in_sections_of : (o : IndentationOptions) (line : ℕ) (before : Measure) (ks : List KeptValue) → AllByRecursion IsPlain ks → AreOf is_of_section (onward_in_sections o line before ks)
in_sections_of o line before [] h = tt
in_sections_of o line before (k ∷ ks) h =
    let all = k.found ++ onward_problems o before k.facts in
    both_of is_of_section (onward_in_section o line before k) (onward_in_sections o (line + k.rows) (and_later before (measure_of k.facts)) ks)
    (moved_of is_of_section line all (both_of is_of_section k.found (onward_problems o before k.facts) (kept_of_section k.found h.0.rules) (indented_of is_of_section refl o before k.facts)))
    (in_sections_of o (line + k.rows) (and_later before (measure_of k.facts)) ks h.1)
