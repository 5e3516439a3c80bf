-- What holds of each problem that is found in a text, and of its fault: their lines and their rules.
use Rattle.std.proofs.Common.{◌≡◌, ℕ, ◌-◌, ◌<◌, ◌≤◌, ◌^◌, Bool, true, false, List, [], ◌∷◌, ◌++◌, length, ap, sym, subst, ◌∙◌, arith, ◌⊎◌, inl, inr}
use Rattle.std.specs.Prelude.{not, slice_get, IfSome}
use Rattle.std.specs.List.{AllByRecursion, filter}
use Rattle.yl_text.proofs.Every.{all_both, all_filter, all_then}
use Rattle.yl_text.specs.Finding.{FindingValue}
use Rattle.yl_text.specs.Lines.{RowValue}
use Rattle.yl_text.specs.Store.{end_of_lines}
use Rattle.yl_text.specs.declared.finding.RuleId.TheVariants.{Syntax}
use Rattle.yl_rules.specs.EmptyLines.{empty_lines}
use Rattle.yl_rules.specs.EndOfFile.{end_of_file}
use Rattle.yl_rules.specs.NewLines.{new_lines}
use Rattle.yl_rules.specs.Runs.{run_findings}
use Rattle.yl_indentation.specs.Measures.{empty_measure}
use Rattle.yl_settings.specs.declared.options.RuleOptions.{RuleOptions}
use Rattle.yl_config.specs.declared.config.Config.{Config}
use Rattle.yl_config.specs.Config.{levels_of, options_of}
use Rattle.yl_report.specs.Directive.{disables_file}
use Rattle.yl_report.specs.Heard.{nothing_silenced}
use Rattle.yl_report.specs.Report.{ProblemValue, is_syntax, report_of}
use Rattle.yl_sections.specs.Kept.{KeptValue, rows_kept}
use Rattle.yl_lint.specs.Onward.{onward_in_sections}
use Rattle.yl_lint.specs.TextReport.{fault_in_sections, findings_from, findings_in_lines, first_text}
use Rattle.yl_problem_lists.specs.Parts.{IsLow, is_no_fault}
use Rattle.yl_problem_lists.specs.Showing.{is_of_lines}
use Rattle.yl_found.specs.Faultless.{faultless}
use Rattle.yl_found.specs.Found.{fault_told, found_by, is_shown, parts_of}
use Rattle.yl_found.specs.Plain.{IsPlain, is_of_section}
use Rattle.yl_found.proofs.RuleKinds.{in_lines_of, in_sections_of, lines_no_fault, section_no_fault}
use Rattle.yl_lint.proofs.LineParts.{Between, between_both, empty_lines_between, end_of_file_between, new_lines_between, rows_between}
use Rattle.yl_problem_lists.proofs.Ordered.{filter_all, filter_swap}
use Rattle.yl_found.proofs.Passing.{all_report}
use Rattle.yl_found.proofs.ReportShown.{fault_of_all, found_whole}
use Rattle.yl_found.proofs.Sections.{between_wider, sections_between}
use Rattle.yl_found.proofs.WithoutFaults.{rows_faultless}

-- ---- lines

in_lines_between : (o : RuleOptions) (rows : List RowValue) (n : ℕ) → length rows ≤ n → Between 0 n (findings_in_lines o rows)
in_lines_between o rows n l =
    let wider = λ (fs : List FindingValue) (h : Between 0 (length rows) fs). between_wider 0 (length rows) 0 n fs (omega arith) l h in
    between_both 0 n (findings_from o.row 1 rows) (run_findings o.run rows) (rows_between o.row 0 n 1 rows (omega arith) (omega (arith, l)))
    (between_both 0 n (new_lines o.run.new_line rows) (empty_lines o.run.empty_lines rows ++ end_of_file rows) (wider (new_lines o.run.new_line rows) (new_lines_between o.run.new_line rows))
    (between_both 0 n (empty_lines o.run.empty_lines rows) (end_of_file rows) (empty_lines_between o.run.empty_lines 0 n [] rows (omega arith) (omega (arith, l))) (wider (end_of_file rows) (end_of_file_between rows))))

-- it stands in the first lines
abbrev pub InFirst : ℕ → ProblemValue → Type 0
InFirst n p = (0 < p.line) × (p.line ≤ n)

module _ (config : Config) (rows : List RowValue) (ks : List KeptValue) (plain : AllByRecursion IsPlain (faultless ks)) where
  abbrev all : List FindingValue
  all = findings_in_lines (options_of config) rows ++ onward_in_sections (options_of config).indentation 0 empty_measure (faultless ks)

  of_found : (P : FindingValue → Type 0) (Q : ProblemValue → Type 0) → ((level : _) (f : FindingValue) → P f → Q (record { line = f.line; column = f.column; level = level; rule = f.rule; message = f.message })) → AllByRecursion P all → AllByRecursion Q (found_by config rows ks)
  of_found P Q each h = subst (λ (ps : List ProblemValue). AllByRecursion Q ps) (sym (found_whole config rows ks plain)) (all_report P Q each (levels_of config) false nothing_silenced all h)

  -- what is found stands in the text's lines
  pub found_in_lines : (n : ℕ) → length rows ≤ n → rows_kept ks ≤ n → AllByRecursion (InFirst n) (found_by config rows ks)
  found_in_lines n l m =
      of_found (λ f. (0 < f.line) × (f.line ≤ n)) (InFirst n) (λ level f h. h)
      (between_both 0 n (findings_in_lines (options_of config) rows) (onward_in_sections (options_of config).indentation 0 empty_measure (faultless ks)) (in_lines_between (options_of config) rows n l)
      (sections_between (options_of config).indentation empty_measure 0 n (faultless ks) plain (omega (arith, m, rows_faultless ks))))

  -- ---- rules

  no_faults : AllByRecursion (λ p. is_no_fault p ≡ true) (found_by config rows ks)
  no_faults =
      let lines = findings_in_lines (options_of config) rows in
      let sections = onward_in_sections (options_of config).indentation 0 empty_measure (faultless ks) in
      of_found (λ f. is_syntax f.rule ≡ false) (λ p. is_no_fault p ≡ true) (λ level f h. ap not h)
      (all_both (λ (f : FindingValue). is_syntax f.rule ≡ false) lines sections
      (all_then (λ (f : FindingValue). is_of_lines f.rule ≡ true) (λ f. is_syntax f.rule ≡ false) lines (λ f h. lines_no_fault f.rule h) (in_lines_of (options_of config) rows))
      (all_then (λ (f : FindingValue). is_of_section f.rule ≡ true) (λ f. is_syntax f.rule ≡ false) sections (λ f h. section_no_fault f.rule h) (in_sections_of (options_of config).indentation 0 empty_measure (faultless ks) plain)))

  -- no fault is among what is found
  pub no_fault_found : filter is_no_fault (found_by config rows ks) ≡ found_by config rows ks
  no_fault_found = filter_all is_no_fault (found_by config rows ks) no_faults

  pub no_fault_shown : filter is_no_fault (parts_of config rows ks).shown ≡ (parts_of config rows ks).shown
  no_fault_shown = filter_swap is_no_fault (is_shown rows ks) (found_by config rows ks) ∙ ap (filter (is_shown rows ks)) no_fault_found

  -- the lines of both parts can be counted on from
  pub parts_low : length rows < 2 ^ 63 → rows_kept ks < 2 ^ 63 → AllByRecursion IsLow (parts_of config rows ks).shown × AllByRecursion IsLow (parts_of config rows ks).suppressed
  parts_low l m = (all_filter IsLow (is_shown rows ks) (found_by config rows ks) low, all_filter IsLow (λ p. not (is_shown rows ks p)) (found_by config rows ks) low)
    where
      low : AllByRecursion IsLow (found_by config rows ks)
      low =
          let n = 2 ^ 63 - 1 in
          all_then (InFirst n) IsLow (found_by config rows ks) (λ p h. omega (arith, h.1)) (found_in_lines n (omega (arith, l)) (omega (arith, m)))

-- the fault, if it is told, is of rule `syntax`
pub fault_of_syntax : (config : Config) (rows : List RowValue) (ks : List KeptValue) → IfSome (fault_told config rows ks) (λ p. is_syntax p.rule ≡ true)
fault_of_syntax config rows ks = by (disables_file (first_text rows)) (fault_in_sections 0 (end_of_lines rows) ks) (fault_of_all 0 (end_of_lines rows) ks)
  where
    first_so : (ps : List ProblemValue) → AllByRecursion (λ p. is_syntax p.rule ≡ true) ps → IfSome (slice_get ps 0) (λ p. is_syntax p.rule ≡ true)
    first_so [] h = tt
    first_so (p ∷ ps) h = h.0

    by : (file : Bool) (fs : List FindingValue) → (fs ≡ []) ⊎ ((x : FindingValue) × (fs ≡ x ∷ []) × (x.rule ≡ Syntax)) → IfSome (slice_get (report_of (levels_of config) file nothing_silenced fs) 0) (λ p. is_syntax p.rule ≡ true)
    by file fs one =
        first_so (report_of (levels_of config) file nothing_silenced fs) (all_report (λ f. is_syntax f.rule ≡ true) (λ p. is_syntax p.rule ≡ true) (λ level f h. h) (levels_of config) file nothing_silenced fs (of one))
      where
        of : (fs ≡ []) ⊎ ((x : FindingValue) × (fs ≡ x ∷ []) × (x.rule ≡ Syntax)) → AllByRecursion (λ f. is_syntax f.rule ≡ true) fs
        of (inl e) = subst (λ (gs : List FindingValue). AllByRecursion (λ f. is_syntax f.rule ≡ true) gs) (sym e) tt
        of (inr (x, e, r)) = subst (λ (gs : List FindingValue). AllByRecursion (λ f. is_syntax f.rule ≡ true) gs) (sym e) (ap is_syntax r, tt)
