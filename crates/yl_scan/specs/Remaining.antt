-- Bridge: what the rows that follow the phase of a scanner report.
use Rattle.std.specs.Prelude.{ℕ, Bool, false, List, ◌∷◌, ◌+◌, ◌-◌, Option, Some, None}
use Rattle.yl_lexeme.specs.declared.lexeme.Style.{Style}
use Rattle.yl_row.specs.declared.fault.PlacedScanFault.{PlacedScanFault}
use Rattle.yl_lexeme.specs.Lexeme.{LexemeValue}
use Rattle.yl_row.specs.Fault.{is_unclosed}
use Rattle.yl_row.specs.Step.{FoundLexemeValue}
use Rattle.yl_row.specs.ScalarReader.{ScalarReaderValue, open_found}
use Rattle.yl_lexeme.specs.Known.{SurroundingsValue}
use Rattle.yl_row.specs.Entries.{LineStateValue, RowReading, lexeme_of, entries_below, entry_of, stopped_rows}
use Rattle.yl_row.specs.Run.{entries_by}
use Rattle.yl_scan.specs.Output.{ScanOutput, output_with_step, entry_step, output_of_entries}

-- what a row at this line that was read so, and whose state is this, and the rows below it report
abbrev pub output_of_row : ℕ → List (List ℕ) → Option LineStateValue → RowReading SurroundingsValue → ScanOutput
output_of_row line rows state r =
    output_with_step line (entry_step line (entry_of state r)) (output_of_entries (line + 1) (entries_below (λ down column k. entries_by false down column k rows) rows r r.fault))

-- the phase of a scanner before a row: between lexemes; within a scalar that began at a line and a
-- column; or after a fault, which reaches `down` rows further, or to the end of the text
pub data PhaseValue : Type 0 where
  Fresh : (is_text_start : Bool) (k : SurroundingsValue) → PhaseValue
  Within : (begun : ℕ) (style : Style) (at : ℕ) (m : ScalarReaderValue) (k : SurroundingsValue) → PhaseValue
  Halted : (to_end : Bool) (down : ℕ) → PhaseValue

-- a lexeme that began above, or its fault, and what follows
abbrev pub output_with_lexeme_above : ℕ → ℕ → LexemeValue → ScanOutput → ScanOutput
output_with_lexeme_above line begun x o = record { lexemes = (begun, x) ∷ o.lexemes; comments = o.comments; states = o.states; fault = o.fault }

abbrev pub output_with_fault_above : ℕ → PlacedScanFault → ScanOutput → ScanOutput
output_with_fault_above begun f o = record { lexemes = o.lexemes; comments = o.comments; states = o.states; fault = Some (begun, f) }

-- the number of rows from the row before this line to one that is `down` rows below the line
-- `begun`
abbrev pub rows_to : ℕ → ℕ → ℕ → ℕ
rows_to line begun down = down - (line - (begun + 1))

-- what the rows from this line on report, if a scalar that began in a row above ends in them or has
-- a fault
abbrev pub output_of_scalar : ℕ → ℕ → ℕ → FoundLexemeValue → SurroundingsValue → List (List ℕ) → Option PlacedScanFault → ScanOutput
output_of_scalar line begun at f k rows None = output_with_lexeme_above line begun (lexeme_of at f) (output_of_entries line (entries_by false (rows_to line begun f.down) f.column k rows))
output_of_scalar line begun at f k rows (Some g) = output_with_fault_above begun g (output_of_entries line (stopped_rows (is_unclosed g.fault) (rows_to line begun g.down) rows))

-- what the rows from this line on report
abbrev pub remaining_output : ℕ → PhaseValue → List (List ℕ) → ScanOutput
remaining_output line (Fresh start k) rows = output_of_entries line (entries_by start 0 0 k rows)
remaining_output line (Within begun style at m k) rows = let f = open_found style at m rows in output_of_scalar line begun at f k rows f.fault
remaining_output line (Halted to_end down) rows = output_of_entries line (stopped_rows to_end down rows)
