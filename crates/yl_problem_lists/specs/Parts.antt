-- Meaning: the problems that are found in a text, split into those that are shown and those that
-- are suppressed, and what becomes of both.
use Rattle.std.specs.Prelude.{ℕ, Bool, not, ◌||◌, nat_le, ◌+◌, ◌-◌, ◌<◌, ◌^◌, List, take, drop, Option, Some, None}
use Rattle.std.specs.List.{filter, prefix_len}
use Rattle.yl_report.specs.Report.{ProblemValue, is_syntax}
use Rattle.yl_problem_lists.specs.Order.{merged, put_in}
use Rattle.yl_problem_lists.specs.Showing.{is_indentation}

-- each problem is in one of the two lists, both in the order of a report
pub record PartsValue : Type 0 where
  pub shown : List ProblemValue
  pub suppressed : List ProblemValue

-- the problems that pass a test are shown, and the others are suppressed
abbrev pub parted : (ProblemValue → Bool) → List ProblemValue → PartsValue
parted f ps = record { shown = filter f ps; suppressed = filter (λ p. not (f p)) ps }

-- ---- the text's fault

-- the problem is not the text's fault, which is among the shown problems and alone is of the rule
-- syntax
abbrev pub is_no_fault : ProblemValue → Bool
is_no_fault p = not (is_syntax p.rule)

-- both lists without the text's fault
abbrev pub without_fault : PartsValue → PartsValue
without_fault ps = record { shown = filter is_no_fault ps.shown; suppressed = ps.suppressed }

-- both lists with the text's fault in its place, if there is one
abbrev pub with_fault : Option ProblemValue → PartsValue → PartsValue
with_fault None ps = ps
with_fault (Some p) ps = record { shown = put_in p ps.shown; suppressed = ps.suppressed }

-- ---- an edit of some lines

-- the problem moved up by `up` lines and then down by `down` lines
abbrev pub shifted : ℕ → ℕ → ProblemValue → ProblemValue
shifted up down p = record { line = p.line - up + down; column = p.column; level = p.level; rule = p.rule; message = p.message }

-- the problem is in the first `line` lines
abbrev pub is_upto : ℕ → ProblemValue → Bool
is_upto line p = nat_le p.line line

-- the problems in the first `line` lines
abbrev pub above : ℕ → List ProblemValue → List ProblemValue
above line ps = take (prefix_len (is_upto line) ps) ps

-- the problems below the first `line` lines
abbrev pub behind : ℕ → List ProblemValue → List ProblemValue
behind line ps = drop (prefix_len (is_upto line) ps) ps

-- the line is small enough that a number of lines may be added to it
abbrev pub IsLow : ProblemValue → Type 0
IsLow p = p.line < 2 ^ 63

-- ---- indentation that is judged again

-- the problem is not one of the rule indentation below the first `line` lines
abbrev pub stays_judged : ℕ → ProblemValue → Bool
stays_judged line p = is_upto line p || not (is_indentation p.rule)

-- the indentation below the first `line` lines is replaced by these problems, if they are there.
-- They go among the suppressed problems: all problems below these lines are to be split again
abbrev pub judged_again : ℕ → Option (List ProblemValue) → PartsValue → PartsValue
judged_again line None ps = ps
judged_again line (Some new) ps = record {
  shown = filter (stays_judged line) ps.shown;
  suppressed = merged (filter (stays_judged line) ps.suppressed) new;
}
