-- Bridge: the findings of the rules that look at the lines of a whole text in the lines that
-- follow, by what a reader keeps of the lines that it has read.
use Rattle.std.specs.Prelude.{ℕ, ◌==◌, if◌then◌else◌, List, [], ◌∷◌, ◌++◌, ◌+◌, Some}
use Rattle.yl_text.specs.Finding.{FindingValue}
use Rattle.yl_text.specs.Lines.{RowValue}
use Rattle.yl_text.specs.declared.row.Break.TheVariants.{No}
use Rattle.yl_rules.specs.EmptyLines.{at_end_of_run, is_break_only}
use Rattle.yl_rules.specs.EndOfFile.{end_of_file_at}
use Rattle.yl_rules.specs.NewLines.{new_lines}
use Rattle.yl_rules.specs.declared.empty_lines.EmptyLinesOptions.{EmptyLinesOptions}
use Rattle.yl_rules.specs.declared.new_lines.NewLine.{NewLine}
use Rattle.yl_rules.specs.declared.options.RunOptions.{RunOptions}

-- what is kept of the lines that were read: their number, the number of lines at their end that
-- consist of a break only, and the text of the last one
pub record RunReaderValue : Type 0 where
  pub options : RunOptions
  pub count : ℕ
  pub run : ℕ
  pub last : List ℕ

-- the finding in the first line, if no line was read
abbrev pub new_lines_left : NewLine → ℕ → List RowValue → List FindingValue
new_lines_left wanted count rows = if count == 0 then new_lines wanted rows else []

-- the number of lines at the end of the lines up to this one that consist of a break only, from the
-- number for the lines before
abbrev pub next_run : ℕ → RowValue → ℕ
next_run run row = if is_break_only row then run + 1 else 0

-- the findings of the runs that end at or after the line with the number `count`; the lines up to
-- it end in a run of `run` lines
abbrev pub empty_lines_left : EmptyLinesOptions → ℕ → ℕ → List RowValue → List FindingValue
empty_lines_left o run count [] = at_end_of_run o run count []
empty_lines_left o run count (row ∷ rows) =
    at_end_of_run o run count (row ∷ rows) ++ empty_lines_left o (next_run run row) (count + 1) rows

-- the finding in the last line: the line with the number `count` and the text `last`, if none
-- follows
abbrev pub end_of_file_left : ℕ → List ℕ → List RowValue → List FindingValue
end_of_file_left count last [] = end_of_file_at count (Some (record { text = last; end = No }))
end_of_file_left count last (row ∷ rows) = end_of_file_left (count + 1) row.text rows

abbrev pub runs_left : RunReaderValue → List RowValue → List FindingValue
runs_left r rows =
    new_lines_left r.options.new_line r.count rows
    ++ (empty_lines_left r.options.empty_lines r.run r.count rows ++ end_of_file_left r.count r.last rows)
