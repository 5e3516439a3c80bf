-- Meaning: the diagnostics that an editor is shown of a text: its report, or that the text is not followed.
use Rattle.std.specs.Prelude.{ℕ, ◌-◌, ◌==◌, ◌&&◌, not, ◌++◌, if◌then◌else◌, List, [], ◌∷◌, length, take, map, codes, decimal}
use Rattle.yl_text.specs.Lines.{RowValue}
use Rattle.yl_text.specs.declared.finding.RuleId.{RuleId}
use Rattle.yl_report.specs.Report.{ProblemValue, is_error, is_syntax}
use Rattle.yl_lsp.specs.declared.range.Range.{Range}
use Rattle.yl_lsp.specs.declared.diagnostic.Code.{Code}
use Rattle.yl_lsp.specs.declared.diagnostic.Code.TheVariants.{Rule, Linked, Lost, More}
use Rattle.yl_lsp.specs.declared.diagnostic.Severity.TheVariants.{Error, Warning, Information}
use Rattle.yl_lsp.specs.declared.presentation.Presentation.{Presentation}
use Rattle.yl_lsp.specs.Words.{range_of}
use Rattle.yl_lsp.specs.Diagnostics.{DiagnosticValue}

-- how problems are shown, the lines of a text, and the problems of its report
pub record ReportValue : Type 0 where
  pub how : Presentation
  pub rows : List RowValue
  pub problems : List ProblemValue

-- a text's fault is described nowhere
abbrev pub code_of : Presentation → RuleId → Code
code_of how rule = if how.links && not (is_syntax rule) then Linked rule else Rule rule

-- lines and columns of problems count from 1, those of places from 0
abbrev pub problem_diagnostic : Presentation → List RowValue → ProblemValue → DiagnosticValue
problem_diagnostic how rows p = record {
  range = range_of how.encoding rows p.rule (record { line = p.line - 1; col = p.column - 1 });
  severity = if is_error p.level then Error else Warning;
  code = code_of how p.rule;
  message = p.message;
}

abbrev pub text_start : Range
text_start = record { start = record { line = 0; units = 0 }; end = record { line = 0; units = 0 } }

-- how many problems are not shown, if any
abbrev pub more_diagnostics : ℕ → List DiagnosticValue
more_diagnostics hidden =
    if hidden == 0 then []
    else record { range = text_start; severity = Information; code = More; message = decimal hidden ++ codes " more problems" } ∷ []

-- the first problems of a report, in its order
abbrev pub report_diagnostics : ReportValue → List DiagnosticValue
report_diagnostics r =
    let most = r.how.most in
    map (problem_diagnostic r.how r.rows) (take most r.problems) ++ more_diagnostics (length r.problems - most)

-- why a text is not followed
abbrev pub lost_diagnostics : List ℕ → List DiagnosticValue
lost_diagnostics why = record { range = text_start; severity = Error; code = Lost; message = why } ∷ []
