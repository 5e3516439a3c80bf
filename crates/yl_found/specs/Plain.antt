-- Bridge: sections whose part in a report is theirs alone: their findings, and their comments that
-- silence, are in their own lines. Each section is such a one, its fault aside, whatever its rows
-- are.
use Rattle.std.specs.Prelude.{◌≡◌, ◌<◌, ◌≤◌, ℕ, Bool, true, not, ◌&&◌, None}
use Rattle.std.specs.List.{AllByRecursion}
use Rattle.yl_text.specs.declared.finding.RuleId.{RuleId}
use Rattle.yl_text.specs.Finding.{FindingValue}
use Rattle.yl_report.specs.Report.{is_syntax}
use Rattle.yl_problem_lists.specs.Showing.{is_indentation, is_of_lines}
use Rattle.yl_sections.specs.Kept.{KeptValue}

-- the finding is in the first `rows` lines, which count from 1
abbrev pub IsWithin : ℕ → FindingValue → Type 0
IsWithin rows f = (0 < f.line) × (f.line ≤ rows)

-- the rule is on sections: it is not on lines, and not that of a fault
abbrev pub is_of_section : RuleId → Bool
is_of_section rule = not (is_of_lines rule) && not (is_syntax rule)

-- the rule is on sections, and not the one of which the summary has facts
abbrev pub is_kept_rule : RuleId → Bool
is_kept_rule rule = is_of_section rule && not (is_indentation rule)

-- the section has no fault, its findings are in its own lines and by rules on sections, and its
-- facts and its comments are in its own lines
pub record IsPlain (k : KeptValue) : Type 0 where
  pub sound : k.fault ≡ None
  pub found : AllByRecursion (IsWithin k.rows) k.found
  pub rules : AllByRecursion (λ f. is_kept_rule f.rule ≡ true) k.found
  pub facts : AllByRecursion (λ f. f.line < k.rows) k.facts
  pub comments : AllByRecursion (λ c. c.line < k.rows) k.comments
