-- Meaning: all problems of a text, whatever comments silence and its first fault hides, split into
-- those that are shown and those that are suppressed; and the fault of the text.
use Rattle.std.specs.Prelude.{Bool, List, Option, slice_get}
use Rattle.yl_text.specs.Lines.{RowValue}
use Rattle.yl_text.specs.Store.{end_of_lines}
use Rattle.yl_config.specs.declared.config.Config.{Config}
use Rattle.yl_config.specs.Config.{levels_of}
use Rattle.yl_report.specs.Directive.{disables_file, is_silenced}
use Rattle.yl_report.specs.Heard.{nothing_silenced}
use Rattle.yl_report.specs.Report.{ProblemValue, report_of}
use Rattle.yl_sections.specs.Kept.{KeptValue, rows_kept}
use Rattle.yl_lint.specs.TextReport.{comments_in_sections, fault_in_sections, first_text, shown}
use Rattle.yl_lint.specs.Unsilenced.{unsilenced_by}
use Rattle.yl_problem_lists.specs.Parts.{PartsValue, parted, with_fault}
use Rattle.yl_problem_lists.specs.Showing.{shows}
use Rattle.yl_found.specs.Faultless.{faultless}

-- all problems of a text with these lines and these summaries of its sections, except for its fault
abbrev pub found_by : Config → List RowValue → List KeptValue → List ProblemValue
found_by config rows ks = unsilenced_by config rows (faultless ks)

-- the problem is shown: the first line does not silence the file, no comment that is shown silences
-- the problem, and no fault hides it
abbrev pub is_shown : List RowValue → List KeptValue → ProblemValue → Bool
is_shown rows ks p = shows (disables_file (first_text rows)) (is_silenced (comments_in_sections 0 (shown ks))) (rows_kept (shown ks)) p

-- the problems that are shown, and those that are suppressed
abbrev pub parts_of : Config → List RowValue → List KeptValue → PartsValue
parts_of config rows ks = parted (is_shown rows ks) (found_by config rows ks)

-- the problem of the text's fault, if the report shows one
abbrev pub fault_told : Config → List RowValue → List KeptValue → Option ProblemValue
fault_told config rows ks = slice_get (report_of (levels_of config) (disables_file (first_text rows)) nothing_silenced (fault_in_sections 0 (end_of_lines rows) ks)) 0

-- both lists, with the text's fault in its place
abbrev pub all_parts : Config → List RowValue → List KeptValue → PartsValue
all_parts config rows ks = with_fault (fault_told config rows ks) (parts_of config rows ks)
