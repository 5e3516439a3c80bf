-- Both lists of a text's problems: they are in order, and where no section has a fault none is among them; and the same without it.
use Rattle.std.proofs.Common.{◌≡◌, ℕ, ◌+◌, Bool, true, false, List, [], ◌∷◌, ◌++◌, Option, Some, None, refl, ap, sym, subst, ◌∙◌}
use Rattle.std.specs.Prelude.{not, slice_get}
use Rattle.std.specs.List.{AllByRecursion, filter}
use Rattle.std.specs.Option.{option_map_or}
use Rattle.yl_text.specs.Finding.{FindingValue}
use Rattle.yl_text.specs.Lines.{RowValue}
use Rattle.yl_text.specs.Store.{end_of_lines}
use Rattle.yl_text.specs.declared.position.Pos.{Pos}
use Rattle.yl_indentation.specs.Measures.{empty_measure}
use Rattle.yl_config.specs.declared.config.Config.{Config}
use Rattle.yl_config.specs.Config.{levels_of, options_of}
use Rattle.yl_report.specs.Directive.{disables_file, is_silenced}
use Rattle.yl_report.specs.Heard.{nothing_silenced}
use Rattle.yl_report.specs.Report.{ProblemValue, report_of}
use Rattle.yl_sections.specs.Kept.{KeptValue, SectionFaultValue}
use Rattle.yl_lint.specs.Onward.{onward_in_sections}
use Rattle.yl_lint.specs.TextReport.{comments_in_sections, fault_in_sections, findings_in_lines, first_text, found_of_kept, report_by, report_of_kept, shown, finding_of_fault}
use Rattle.yl_problem_lists.specs.Order.{IsInOrder}
use Rattle.yl_problem_lists.specs.Parts.{is_no_fault, with_fault, without_fault}
use Rattle.yl_problem_lists.proofs.Faults.{report_in_order}
use Rattle.yl_problem_lists.proofs.Following.{fault_goes}
use Rattle.yl_problem_lists.proofs.Ordered.{order_filter}
use Rattle.yl_found.specs.Faultless.{faultless}
use Rattle.yl_found.specs.Found.{all_parts, fault_told, found_by, is_shown, parts_of}
use Rattle.yl_found.specs.Plain.{IsPlain}
use Rattle.yl_summary.specs.Overview.{IsSound}
use Rattle.yl_found.proofs.EachFound.{fault_of_syntax, no_fault_shown}
use Rattle.yl_found.proofs.ReportShown.{found_whole, report_shown}

-- ---- order

pub found_in_order : (config : Config) (rows : List RowValue) (ks : List KeptValue) → AllByRecursion IsPlain (faultless ks) → IsInOrder (found_by config rows ks)
found_in_order config rows ks plain =
    let found = findings_in_lines (options_of config) rows ++ onward_in_sections (options_of config).indentation 0 empty_measure (faultless ks) in
    subst (λ (ps : List ProblemValue). IsInOrder ps) (sym (found_whole config rows ks plain)) (report_in_order (levels_of config) false nothing_silenced found)

report_ordered : (config : Config) (rows : List RowValue) (ks : List KeptValue) → IsInOrder (report_by config rows ks)
unfolding report_of_kept
report_ordered config rows ks =
    report_in_order (levels_of config) (disables_file (first_text rows)) (is_silenced (comments_in_sections 0 (shown ks))) (found_of_kept config (findings_in_lines (options_of config) rows) (end_of_lines rows) ks)

pub shown_in_order : (config : Config) (rows : List RowValue) (ks : List KeptValue) → AllByRecursion IsPlain (faultless ks) → IsInOrder (all_parts config rows ks).shown
shown_in_order config rows ks plain = subst (λ (ps : List ProblemValue). IsInOrder ps) (report_shown config rows ks plain) (report_ordered config rows ks)

-- the fault is put among what is shown
same_suppressed : (config : Config) (rows : List RowValue) (ks : List KeptValue) → (parts_of config rows ks).suppressed ≡ (all_parts config rows ks).suppressed
same_suppressed config rows ks = by (fault_told config rows ks)
  where
    by : (o : Option ProblemValue) → (parts_of config rows ks).suppressed ≡ (with_fault o (parts_of config rows ks)).suppressed
    by None = refl
    by (Some p) = refl

pub suppressed_in_order : (config : Config) (rows : List RowValue) (ks : List KeptValue) → AllByRecursion IsPlain (faultless ks) → IsInOrder (all_parts config rows ks).suppressed
suppressed_in_order config rows ks plain =
    subst (λ (ps : List ProblemValue). IsInOrder ps) (same_suppressed config rows ks) (order_filter (λ p. not (is_shown rows ks p)) (found_by config rows ks) (found_in_order config rows ks plain))

-- ---- no fault

pub no_fault_in : (line : ℕ) (end : Pos) (ks : List KeptValue) → AllByRecursion IsSound ks → fault_in_sections line end ks ≡ []
no_fault_in line end [] h = refl
no_fault_in line end (k ∷ ks) h =
    ap (λ (f : Option SectionFaultValue). option_map_or (λ f. finding_of_fault line k.rows end ks f ∷ []) f (fault_in_sections (line + k.rows) end ks)) h.0 ∙ no_fault_in (line + k.rows) end ks h.1

-- sections without fault have none that is told
pub none_told : (config : Config) (rows : List RowValue) (ks : List KeptValue) → AllByRecursion IsSound ks → fault_told config rows ks ≡ None
none_told config rows ks sound =
    ap (λ (fs : List FindingValue). slice_get (report_of (levels_of config) (disables_file (first_text rows)) nothing_silenced fs) 0) (no_fault_in 0 (end_of_lines rows) ks sound) ∙ none (disables_file (first_text rows))
  where
    none : (file : Bool) → slice_get (report_of (levels_of config) file nothing_silenced []) 0 ≡ None
    none true = refl
    none false = refl

-- and where none is told, none is shown
pub none_shown : (config : Config) (rows : List RowValue) (ks : List KeptValue) → AllByRecursion IsPlain (faultless ks) → fault_told config rows ks ≡ None → filter is_no_fault (all_parts config rows ks).shown ≡ (all_parts config rows ks).shown
none_shown config rows ks plain e =
    ap (λ (o : Option ProblemValue). filter is_no_fault (with_fault o (parts_of config rows ks)).shown) e
    ∙ (no_fault_shown config rows ks plain ∙ ap (λ (o : Option ProblemValue). (with_fault o (parts_of config rows ks)).shown) (sym e))

-- ---- the text's fault aside

pub fault_apart : (config : Config) (rows : List RowValue) (ks : List KeptValue) → AllByRecursion IsPlain (faultless ks) → without_fault (all_parts config rows ks) ≡ parts_of config rows ks
fault_apart config rows ks plain = fault_goes (fault_told config rows ks) (parts_of config rows ks) (no_fault_shown config rows ks plain) (fault_of_syntax config rows ks)
