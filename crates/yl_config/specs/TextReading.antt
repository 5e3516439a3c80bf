-- Meaning: the reading of a text: its lexemes with their lines, the position of its scan fault, if
-- it has one, and its end. Lines and columns count from 0.
use Rattle.std.specs.Prelude.{ℕ, ◌+◌, ◌-◌, List, map, length, Option, Some, None, option_map, slice_get}
use Rattle.yl_text.specs.declared.position.Pos.{Pos}
use Rattle.yl_lexeme.specs.Lexeme.{LexemeValue}
use Rattle.yl_row.specs.declared.fault.PlacedScanFault.{PlacedScanFault}
use Rattle.yl_row.specs.Entries.{entries}
use Rattle.yl_marks.specs.Keys.{lexeme_at_line}
use Rattle.yl_scan.specs.Output.{ScanOutput, output_of_entries}

pub record TextReading : Type 0 where
  pub lexemes : List LexemeValue
  pub fault : Option Pos
  pub end : Pos

-- a lexeme that begins in a line
abbrev pub lexeme_in_text : ℕ × LexemeValue → LexemeValue
lexeme_in_text x = lexeme_at_line x.0 x.1

-- the position of a fault, given with the line in which its lexeme begins
abbrev pub place_of_fault : ℕ × PlacedScanFault → Pos
place_of_fault f = record { line = f.0 + f.1.down; col = f.1.column }

abbrev pub width_of : Option (List ℕ) → ℕ
width_of None = 0
width_of (Some row) = length row

-- the position after the last character of the last line
abbrev pub end_of : List (List ℕ) → Pos
end_of rows = record { line = length rows - 1; col = width_of (slice_get rows (length rows - 1)) }

abbrev pub reading_with : Pos → ScanOutput → TextReading
reading_with end o = record { lexemes = map lexeme_in_text o.lexemes; fault = option_map place_of_fault o.fault; end = end }

-- the reading of a text, given by its lines, each a list of characters
abbrev pub reading_of : List (List ℕ) → TextReading
reading_of rows = reading_with (end_of rows) (output_of_entries 0 (entries rows))
