-- Meaning: a diagnostic (LSP 3.17, `Diagnostic`) as JSON, its members in the order of their names. A text is in UTF-8.
use Rattle.std.specs.Prelude.{ℕ, ◌++◌, List, codes, decimal}
use Rattle.json.specs.Json.{Json, number, string, object, Members, no_members, member}
use Rattle.yl_text.specs.declared.finding.RuleId.{RuleId}
use Rattle.yl_text.specs.Finding.{rule_name}
use Rattle.yl_units.specs.declared.place.EditorPlace.{EditorPlace}
use Rattle.yl_lsp.specs.declared.range.Range.{Range}
use Rattle.yl_lsp.specs.declared.diagnostic.Code.{Code}
use Rattle.yl_lsp.specs.declared.diagnostic.Code.TheVariants.{Rule, Linked, Lost, More}
use Rattle.yl_lsp.specs.declared.diagnostic.Severity.{Severity}
use Rattle.yl_lsp.specs.declared.diagnostic.Severity.TheVariants.{Error, Warning, Information}

pub record DiagnosticValue : Type 0 where
  pub range : Range
  pub severity : Severity
  pub code : Code
  pub message : List ℕ

-- LSP's numbers (`DiagnosticSeverity`)
abbrev pub severity_digit : Severity → List ℕ
severity_digit Error = codes "1"
severity_digit Warning = codes "2"
severity_digit Information = codes "3"

-- where yamllint's documentation describes a rule
abbrev pub rule_link : RuleId → List ℕ
rule_link rule = codes "https://yamllint.readthedocs.io/en/stable/rules.html#" ++ rule_name rule

abbrev pub description : RuleId → Json
description rule = object (member (codes "href") (string (rule_link rule)) no_members)

-- what a diagnostic is of, before its other members: a rule, with where it is described if the editor takes links; or a text that is not
-- followed, or problems that are not shown
abbrev pub with_code : Code → Members → Members
with_code (Rule rule) others = member (codes "code") (string (rule_name rule)) others
with_code (Linked rule) others = member (codes "code") (string (rule_name rule)) (member (codes "codeDescription") (description rule) others)
with_code Lost others = member (codes "code") (string (codes "lost")) others
with_code More others = member (codes "code") (string (codes "more")) others

abbrev pub place_json : EditorPlace → Json
place_json p = object (member (codes "character") (number (decimal p.units)) (member (codes "line") (number (decimal p.line)) no_members))

abbrev pub range_json : Range → Json
range_json r = object (member (codes "end") (place_json r.end) (member (codes "start") (place_json r.start) no_members))

abbrev pub diagnostic_json : DiagnosticValue → Json
diagnostic_json d =
    object (with_code d.code (member (codes "message") (string d.message) (member (codes "range") (range_json d.range)
    (member (codes "severity") (number (severity_digit d.severity)) (member (codes "source") (string (codes "zutkrad")) no_members)))))
