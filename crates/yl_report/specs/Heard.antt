-- Meaning: what of a report is left where comments silence some of it.
use Rattle.std.specs.Prelude.{◌≡◌, ℕ, Bool, false, not, ◌||◌, ◌-◌, if◌then◌else◌, List, []}
use Rattle.std.specs.List.{filter}
use Rattle.yl_text.specs.Finding.{FindingValue}
use Rattle.yl_text.specs.declared.finding.RuleId.{RuleId}
use Rattle.yl_rules.specs.Levels.{LevelTable}
use Rattle.yl_report.specs.Report.{ProblemValue, is_syntax, report_of}

-- nothing is silenced
abbrev pub nothing_silenced : RuleId → ℕ → Bool
nothing_silenced rule line = false

-- nothing silences the problem in its line, which counts from 0 there; a text's fault is heard
abbrev pub is_heard : (RuleId → ℕ → Bool) → ProblemValue → Bool
is_heard silenced p = is_syntax p.rule || not (silenced p.rule (p.line - 1))

-- what is left of a report
abbrev pub heard : Bool → (RuleId → ℕ → Bool) → List ProblemValue → List ProblemValue
heard is_file_silenced silenced problems = if is_file_silenced then [] else filter (is_heard silenced) problems

-- a report is what is left of the one that no comment silences
abbrev pub IsHeard : Type 0
IsHeard = (levels : LevelTable) (is_file_silenced : Bool) (silenced : RuleId → ℕ → Bool) (found : List FindingValue)
    → heard is_file_silenced silenced (report_of levels false nothing_silenced found) ≡ report_of levels is_file_silenced silenced found
