-- Meaning: what is printed of what a row tells.
use Rattle.std.specs.Prelude.{ℕ, ◌+◌, ◌-◌, ◌^◌, min, List, [], ◌++◌, Option, Some, None}
use Rattle.std.specs.List.{flat_map}
use Rattle.yl_lexeme.specs.Lexeme.{LexemeValue, CommentValue}
use Rattle.yl_row.specs.declared.fault.PlacedScanFault.{PlacedScanFault}
use Rattle.yl_row.specs.Fault.{fault_text}
use Rattle.yl_scan.specs.Output.{StepValue}
use Rattle.yl_dump.specs.LexemeLine.{comment_line, scan_fault_line, lexeme_line, text_place}

-- a lexeme that began in an earlier line, with that line
abbrev pub above_lines : Option (ℕ × LexemeValue) → List ℕ
above_lines None = []
above_lines (Some x) = lexeme_line x.0 x.1

abbrev pub lines_of_comment : ℕ → Option CommentValue → List ℕ
lines_of_comment line None = []
lines_of_comment line (Some c) = comment_line line c

-- a fault, with the line in which its lexeme begins; it stands so many lines below, as far as 64 bits count
abbrev pub failed_lines : Option (ℕ × PlacedScanFault) → List ℕ
failed_lines None = []
failed_lines (Some x) = scan_fault_line (text_place (min (x.0 + x.1.down) (2 ^ 64 - 1)) x.1.column) (fault_text x.1.fault)

-- what is told at this line
abbrev pub step_lines : ℕ → StepValue → List ℕ
step_lines line t = above_lines t.above ++ flat_map (lexeme_line line) t.lexemes ++ lines_of_comment line t.comment ++ failed_lines t.fault
