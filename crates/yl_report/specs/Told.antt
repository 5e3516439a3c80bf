-- Meaning: what was found, as a problem of a report tells it.
use Rattle.yl_text.specs.Finding.{FindingValue}
use Rattle.yl_report.specs.Report.{ProblemValue}

-- without its level
abbrev pub finding_told : ProblemValue → FindingValue
finding_told p = record { line = p.line; column = p.column; rule = p.rule; message = p.message }
