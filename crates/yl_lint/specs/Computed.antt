-- Bridge: the report of a text, computed: by the outcomes of its documents while the lexemes are
-- read.
use Rattle.std.specs.Prelude.{List, map}
use Rattle.yl_text.specs.Lines.{RowValue}
use Rattle.yl_report.specs.Report.{ProblemValue}
use Rattle.yl_config.specs.declared.config.Config.{Config}
use Rattle.yl_sections.specs.Kept.{KeptValue}
use Rattle.yl_sections.specs.Judge.{kept_of_section}
use Rattle.yl_sections.specs.Sections.{sections}
use Rattle.yl_lint.specs.TextReport.{IsReport, records_of, report_by}

abbrev pub kept_of_text : Config → List RowValue → List KeptValue
kept_of_text config rows = map (kept_of_section config) (sections (records_of rows))

-- the report of the lines of a text under a configuration
unfoldable pub report : Config → List RowValue → List ProblemValue
report config rows = report_by config rows (kept_of_text config rows)

-- what is computed is the report
abbrev pub ReportIsComputed : Type 0
ReportIsComputed = (config : Config) (rows : List RowValue) → IsReport config rows (report config rows)
