-- Meaning: laws of reports: each text has one report.
use Rattle.std.specs.Prelude.{◌≡◌, List}
use Rattle.yl_text.specs.Lines.{RowValue}
use Rattle.yl_report.specs.Report.{ProblemValue}
use Rattle.yl_config.specs.declared.config.Config.{Config}
use Rattle.yl_lint.specs.TextReport.{IsReport}

-- each text has a report
abbrev pub HasReport : Type 0
HasReport = (config : Config) (rows : List RowValue) → (problems : List ProblemValue) × IsReport config rows problems

-- no text has two reports
abbrev pub OneReport : Type 0
OneReport = (config : Config) (rows : List RowValue) (xs ys : List ProblemValue) → IsReport config rows xs → IsReport config rows ys → xs ≡ ys
