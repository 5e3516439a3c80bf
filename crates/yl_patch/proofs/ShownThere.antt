-- What is found in the lines of sections that are put in place of some is shown as the comments up to them say.
use Rattle.std.proofs.Common.{◌≡◌, ℕ, ◌+◌, ◌<◌, ◌≤◌, Bool, true, false, List, [], ◌++◌, length, map, take, ap, sym, subst, ◌∙◌, arith, rules}
use Rattle.std.specs.Prelude.{not}
use Rattle.std.specs.List.{AllByRecursion, filter, splice}
use Rattle.std.proofs.lemmas.List.{same_lists, places}
use Rattle.yl_text.proofs.Every.{all_then}
use Rattle.yl_text.specs.Finding.{FindingValue}
use Rattle.yl_text.specs.Lines.{RowValue}
use Rattle.yl_text.specs.declared.finding.RuleId.{RuleId}
use Rattle.yl_rules.specs.EmptyLines.{empty_lines}
use Rattle.yl_rules.specs.EndOfFile.{end_of_file}
use Rattle.yl_rules.specs.Levels.{LevelTable}
use Rattle.yl_rules.specs.NewLines.{new_lines}
use Rattle.yl_indentation.specs.declared.measure.Measure.{Measure}
use Rattle.yl_settings.specs.declared.options.RuleOptions.{RuleOptions}
use Rattle.yl_report.specs.Directive.{disables_file, is_silenced}
use Rattle.yl_report.specs.Report.{ProblemValue, report_of}
use Rattle.yl_sections.specs.Kept.{KeptValue, items_if, rows_kept}
use Rattle.yl_lint.specs.Onward.{onward_in_sections}
use Rattle.yl_lint.specs.TextReport.{comments_in_sections, findings_from, first_text, moved, shown}
use Rattle.yl_problem_lists.specs.Showing.{shows}
use Rattle.yl_problem_lists.proofs.Ordered.{filter_same}
use Rattle.yl_found.specs.Faultless.{faultless}
use Rattle.yl_found.specs.Found.{is_shown}
use Rattle.yl_found.specs.Plain.{IsPlain}
use Rattle.yl_edited_lines.specs.There.{found_there, lines_there}
use Rattle.yl_edited_lines.specs.declared.there.Ends.{Ends}
use Rattle.yl_patch.proofs.AlikeShown.{upto_alike}
use Rattle.yl_found.proofs.EachFound.{InFirst}
use Rattle.yl_lint.proofs.LineParts.{Between, between_both, empty_lines_between, end_of_file_between, new_lines_between, rows_between}
use Rattle.yl_found.proofs.Passing.{all_report}
use Rattle.yl_found.proofs.Sections.{between_moved, between_wider, sections_between}
use Rattle.yl_summary.proofs.Walks.{rows_both}
use Rattle.yl_found.proofs.WithoutFaults.{onward_faultless, rows_faultless}

-- ---- the lines of what is found there

if_between : (low high : ℕ) (b : Bool) (fs : List FindingValue) → Between low high fs → Between low high (items_if b fs)
if_between low high true fs h = h
if_between low high false fs h = tt

there_between : (o : RuleOptions) (e : Ends) (before : Measure) (rows : List RowValue) (ks : List KeptValue) (n : ℕ) → AllByRecursion IsPlain (faultless ks) → length rows ≤ n → rows_kept ks ≤ n → Between 0 n (found_there o e before rows ks)
there_between o e before rows ks n plain l m =
    let wider = λ (fs : List FindingValue) (h : Between 0 (length rows) fs). between_wider 0 (length rows) 0 n fs (omega arith) l h in
    between_both 0 n (lines_there o e rows) (onward_in_sections o.indentation 0 before ks)
    (between_both 0 n (findings_from o.row 1 rows) _ (rows_between o.row 0 n 1 rows (omega arith) (omega (arith, l)))
    (between_both 0 n (items_if e.begins (new_lines o.run.new_line rows)) _ (if_between 0 n e.begins (new_lines o.run.new_line rows) (wider (new_lines o.run.new_line rows) (new_lines_between o.run.new_line rows)))
    (between_both 0 n (empty_lines o.run.empty_lines rows) _ (empty_lines_between o.run.empty_lines 0 n [] rows (omega arith) (omega (arith, l)))
    (if_between 0 n e.ends (end_of_file rows) (wider (end_of_file rows) (end_of_file_between rows))))))
    (subst (λ (fs : List FindingValue). Between 0 n fs) (onward_faultless o.indentation 0 before ks) (sections_between o.indentation before 0 n (faultless ks) plain (omega (arith, m, rows_faultless ks))))

-- behind so many lines, the problems of what is found there stand in the lines up to the sections' end
pub there_in_first : (levels : LevelTable) (file : Bool) (s : RuleId → ℕ → Bool) (o : RuleOptions) (e : Ends) (before : Measure) (first n : ℕ) (rows : List RowValue) (ks : List KeptValue) (found : List FindingValue)
    → found ≡ map (moved first) (found_there o e before rows ks) → AllByRecursion IsPlain (faultless ks) → length rows ≤ n → rows_kept ks ≤ n → AllByRecursion (InFirst (first + n)) (report_of levels file s found)
there_in_first levels file s o e before first n rows ks found is plain l m =
    let there = found_there o e before rows ks in
    all_report (λ f. (first + 0 < f.line) × (f.line ≤ first + n)) (InFirst (first + n)) (λ level f h. (omega (arith, h.0), h.1)) levels file s found
    (subst (λ (fs : List FindingValue). Between (first + 0) (first + n) fs) (sym is) (between_moved first 0 n there (there_between o e before rows ks n plain l m)))

-- ---- what is shown of them

module _ (rows : List RowValue) (ks : List KeptValue) (n : ℕ) (f : ProblemValue → Bool) (upto : (p : ProblemValue) → f p ≡ shows (disables_file (first_text rows)) (is_silenced (comments_in_sections 0 (take n (shown ks)))) (rows_kept (shown ks)) p)
    (ps : List ProblemValue) (low : AllByRecursion (InFirst (rows_kept (take n ks))) ps) where
  says_same : AllByRecursion (λ p. f p ≡ is_shown rows ks p) ps
  says_same = all_then (InFirst (rows_kept (take n ks))) (λ p. f p ≡ is_shown rows ks p) ps (λ p h. upto p ∙ upto_alike rows ks n p h.0 h.1) low

  -- in the first lines, both parts by the comments up to there
  pub shown_upto : filter f ps ≡ filter (is_shown rows ks) ps
  shown_upto = filter_same f (is_shown rows ks) ps says_same

  pub suppressed_upto : filter (λ p. not (f p)) ps ≡ filter (λ p. not (is_shown rows ks p)) ps
  suppressed_upto =
      filter_same (λ p. not (f p)) (λ p. not (is_shown rows ks p)) ps
      (all_then (λ (p : ProblemValue). f p ≡ is_shown rows ks p) (λ p. not (f p) ≡ not (is_shown rows ks p)) ps (λ p h. ap not h) says_same)

-- the lines up to the end of those that were put in place of some
pub rows_upto : (ks new : List KeptValue) (from end : ℕ) → from ≤ length ks → rows_kept (take (from + length new) (splice ks from end new)) ≡ rows_kept (take from ks) + rows_kept new
rows_upto ks new from end l =
    let e : take (from + length new) (splice ks from end new) ≡ take from ks ++ new = same_lists _ _ (search (rules, places)) (λ n d o. grind (arith, places)) in
    ap rows_kept e ∙ rows_both (take from ks) new
