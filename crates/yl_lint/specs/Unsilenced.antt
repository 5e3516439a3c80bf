-- Meaning: the report of a text as if no comment of it silenced anything.
use Rattle.std.specs.Prelude.{◌≡◌, false, List}
use Rattle.yl_text.specs.Finding.{FindingValue}
use Rattle.yl_text.specs.Lines.{RowValue}
use Rattle.yl_text.specs.Store.{end_of_lines}
use Rattle.yl_text.specs.declared.position.Pos.{Pos}
use Rattle.yl_config.specs.declared.config.Config.{Config}
use Rattle.yl_config.specs.Config.{levels_of, options_of}
use Rattle.yl_report.specs.Directive.{disables_file, is_silenced}
use Rattle.yl_report.specs.Heard.{heard, nothing_silenced}
use Rattle.yl_report.specs.Report.{ProblemValue, report_of}
use Rattle.yl_sections.specs.Kept.{KeptValue}
use Rattle.yl_lint.specs.TextReport.{comments_in_sections, findings_in_lines, first_text, found_of_kept, report_by, shown}

-- the report of a text that ends at `end`, from the findings of the rules on lines and the
-- summaries of its sections
unfoldable pub unsilenced_of_kept : Config → List FindingValue → Pos → List KeptValue → List ProblemValue
unsilenced_of_kept config in_lines end ks = report_of (levels_of config) false nothing_silenced (found_of_kept config in_lines end ks)

-- the report of these lines, from the summaries of their sections
abbrev pub unsilenced_by : Config → List RowValue → List KeptValue → List ProblemValue
unsilenced_by config rows ks = unsilenced_of_kept config (findings_in_lines (options_of config) rows) (end_of_lines rows) ks

-- the report is what the comments leave of the unsilenced report
abbrev pub IsHeardOfText : Type 0
IsHeardOfText = (config : Config) (rows : List RowValue) (ks : List KeptValue)
    → heard (disables_file (first_text rows)) (is_silenced (comments_in_sections 0 (shown ks))) (unsilenced_by config rows ks) ≡ report_by config rows ks
