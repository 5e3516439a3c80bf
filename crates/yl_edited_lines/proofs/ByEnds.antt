-- What the rules on lines find in a text, without what is said of its ends where they are not those of the text.
use Rattle.std.proofs.Common.{◌≡◌, ℕ, ◌+◌, ◌-◌, ◌==◌, Bool, true, false, List, [], ◌∷◌, ◌++◌, length, Option, Some, None, refl, ap, ◌∙◌, if◌then◌else◌, cond}
use Rattle.std.specs.Prelude.{◌&&◌, ◌||◌}
use Rattle.std.specs.List.{AllByRecursion, filter, slice_get, prefix_len}
use Rattle.std.specs.Str.{chars}
use Rattle.std.proofs.lemmas.List.Elements.{filter-append}
use Rattle.yl_text.specs.declared.finding.RuleId.{RuleId}
use Rattle.yl_text.specs.Character.{starts_by}
use Rattle.yl_text.specs.Finding.{FindingValue, one_finding, at_each}
use Rattle.yl_text.specs.Lines.{RowValue}
use Rattle.yl_rules.specs.declared.empty_lines.EmptyLinesOptions.{EmptyLinesOptions}
use Rattle.yl_rules.specs.declared.new_lines.NewLine.{NewLine}
use Rattle.yl_rules.specs.declared.options.RowOptions.{RowOptions}
use Rattle.yl_rules.specs.EmptyLines.{empty_lines, empty_lines_at, is_break_only, is_text_end, run_findings_of, too_many_blank_lines}
use Rattle.yl_rules.specs.EndOfFile.{end_of_file, end_of_file_at}
use Rattle.yl_rules.specs.NewLines.{new_lines}
use Rattle.yl_rules.specs.Rows.{row_findings}
use Rattle.yl_rules.specs.TrailingSpaces.{trailing_spaces}
use Rattle.yl_rules.specs.LineLength.{line_length}
use Rattle.yl_settings.specs.declared.options.RuleOptions.{RuleOptions}
use Rattle.yl_sections.specs.Kept.{items_if}
use Rattle.yl_lint.specs.TextReport.{findings_from, findings_in_lines}
use Rattle.yl_edited_lines.specs.There.{judges, lines_there}
use Rattle.yl_edited_lines.specs.declared.there.Ends.{Ends}

module _ (e : Ends) where
  abbrev stays : FindingValue → Bool
  stays f = judges e f.rule

  -- each of these stays, or none does
  abbrev Each : Bool → List FindingValue → Type 0
  Each b fs = AllByRecursion (λ f. stays f ≡ b) fs

  each_both : (b : Bool) (xs ys : List FindingValue) → Each b xs → Each b ys → Each b (xs ++ ys)
  each_both b [] ys h k = k
  each_both b (x ∷ xs) ys h k = (h.0, each_both b xs ys h.1 k)

  unless_each : (b : Bool) (line column : ℕ) (r : RuleId) (m : List ℕ) (c : Bool) → judges e r ≡ b → Each b (if c then [] else one_finding r line column m)
  unless_each b line column r m true h = tt
  unless_each b line column r m false h = (h, tt)

  when_each : (b : Bool) (line column : ℕ) (r : RuleId) (m : List ℕ) (c : Bool) → judges e r ≡ b → Each b (if c then one_finding r line column m else [])
  when_each b line column r m true h = (h, tt)
  when_each b line column r m false h = tt

  rows_stay : (o : RowOptions) (line : ℕ) (rows : List RowValue) → Each true (findings_from o line rows)
  rows_stay o line [] = tt
  rows_stay o line (row ∷ rows) =
      each_both true (row_findings o line row) (findings_from o (line + 1) rows)
      (each_both true (trailing_spaces line (chars row.text)) (line_length o line (chars row.text)) (unless_each true line _ _ _ _ refl) (unless_each true line _ _ _ _ refl)) (rows_stay o (line + 1) rows)

  run_stays : (o : EmptyLinesOptions) (run line : ℕ) (on at_end : Bool) → Each true (if on then [] else run_findings_of o run line at_end)
  run_stays o run line true at_end = tt
  run_stays o run line false at_end = judged (line == 1 && at_end)
    where
      judged : (b : Bool) → Each true (if b then [] else too_many_blank_lines run (if at_end then o.max_end else if run == line then o.max_start else o.max) line)
      judged true = tt
      judged false = unless_each true line _ _ _ _ refl

  runs_stay : (o : EmptyLinesOptions) (before rows : List RowValue) → Each true (at_each (empty_lines_at o) before rows)
  runs_stay o before [] = tt
  runs_stay o before (row ∷ rows) =
      let run = prefix_len is_break_only (row ∷ before) in
      each_both true (empty_lines_at o before row rows) (at_each (empty_lines_at o) (row ∷ before) rows) (run_stays o run (length before + 1) (run == 0 || starts_by is_break_only rows) (is_text_end rows)) (runs_stay o (row ∷ before) rows)

  first_stays : (wanted : NewLine) (rows : List RowValue) → Each e.begins (new_lines wanted rows)
  first_stays wanted [] = tt
  first_stays wanted (row ∷ rows) = when_each e.begins 1 _ _ _ _ refl

  last_stays : (line : ℕ) (o : Option RowValue) → Each e.ends (end_of_file_at line o)
  last_stays line None = tt
  last_stays line (Some row) = unless_each e.ends line _ _ _ _ refl

  stay_if : (b : Bool) (fs : List FindingValue) → Each b fs → filter stays fs ≡ items_if b fs
  stay_if true [] h = refl
  stay_if false [] h = refl
  stay_if true (f ∷ fs) h = ap (λ b. cond b (f ∷ filter stays fs) (filter stays fs)) h.0 ∙ ap (λ (gs : List FindingValue). f ∷ gs) (stay_if true fs h.1)
  stay_if false (f ∷ fs) h = ap (λ b. cond b (f ∷ filter stays fs) (filter stays fs)) h.0 ∙ stay_if false fs h.1

  pub within_ends : (o : RuleOptions) (rows : List RowValue) → filter (λ f. judges e f.rule) (findings_in_lines o rows) ≡ lines_there o e rows
  within_ends o rows =
      let r = findings_from o.row 1 rows in
      let n = new_lines o.run.new_line rows in
      let l = empty_lines o.run.empty_lines rows in
      let z = end_of_file rows in
      filter-append stays r (n ++ (l ++ z))
      ∙ (ap (λ (fs : List FindingValue). filter stays r ++ fs) (filter-append stays n (l ++ z) ∙ ap (λ (fs : List FindingValue). filter stays n ++ fs) (filter-append stays l z))
      ∙ rw (stay_if true r (rows_stay o.row 1 rows), stay_if e.begins n (first_stays o.run.new_line rows), stay_if true l (runs_stay o.run.empty_lines [] rows), stay_if e.ends z (last_stays (length rows) (slice_get rows (length rows - 1)))) refl)
