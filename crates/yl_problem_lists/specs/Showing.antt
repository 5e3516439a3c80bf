-- Meaning: which of the problems that are found in a text are shown. Comments silence problems, as
-- yamllint's documentation says in "Disable with comments". The first section with a fault hides
-- what is found in the sections after it, except for what the rules on lines find there.
use Rattle.std.specs.Prelude.{ℕ, Bool, true, false, not, ◌&&◌, nat_lt}
use Rattle.yl_text.specs.declared.finding.RuleId.{RuleId}
use Rattle.yl_text.specs.declared.finding.RuleId.TheVariants.{EmptyLines, Indentation, LineLength, NewLineAtEndOfFile, NewLines, TrailingSpaces}
use Rattle.yl_report.specs.Heard.{is_heard}
use Rattle.yl_report.specs.Report.{ProblemValue}
use Rattle.yl_report.specs.Silence.{is_file_silenced_by, is_silenced_at}
use Rattle.yl_problem_lists.specs.declared.showing.Showing.{Showing}

-- a rule on lines
abbrev pub is_of_lines : RuleId → Bool
is_of_lines EmptyLines = true
is_of_lines LineLength = true
is_of_lines NewLineAtEndOfFile = true
is_of_lines NewLines = true
is_of_lines TrailingSpaces = true
is_of_lines _ = false

-- the rule that judges a line by the lines above it
abbrev pub is_indentation : RuleId → Bool
is_indentation Indentation = true
is_indentation _ = false

-- the problem is of a rule that is not on lines, and its line is after `last`, the last line of the
-- sections that are shown, counted from 1
abbrev pub is_hidden : ℕ → ProblemValue → Bool
is_hidden last p = not (is_of_lines p.rule) && nat_lt last p.line

-- the problem is shown: neither the whole file nor this problem is silenced, and it is not hidden
-- after the line `last`
abbrev pub shows : Bool → (RuleId → ℕ → Bool) → ℕ → ProblemValue → Bool
shows is_file_silenced silenced last p = not is_file_silenced && (not (is_hidden last p) && is_heard silenced p)

-- the problem is shown, by the value of the code
unfoldable pub is_shown_by : {A : Type 0} → Showing A → ProblemValue → Bool
is_shown_by s = shows (is_file_silenced_by s.silences) (is_silenced_at s.silences) s.last
