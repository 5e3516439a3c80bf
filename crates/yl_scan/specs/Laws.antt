-- Bridge: a law of scalars that are carried from row to row.
use Rattle.std.specs.Prelude.{◌≡◌, ◌<◌, ℕ, ◌+◌, ◌-◌, List, ◌∷◌}
use Rattle.yl_scalar.specs.Reading.{GoesOn}
use Rattle.yl_lexeme.specs.declared.lexeme.Style.{Style}
use Rattle.yl_row.specs.ScalarReader.{ScalarReaderValue, reader_step, rows_in, KeepsSpaces}
use Rattle.yl_scan.specs.Output.{silent_step, output_with_step}
use Rattle.yl_scan.specs.Remaining.{Within, remaining_output}
use Rattle.yl_lexeme.specs.Known.{SurroundingsValue, new_row}

-- a row that a scalar goes through reports nothing, and the rows below it report what follows from
-- the reader of the scalar after the row. So carrying a scalar from row to row gives what reading
-- it as a whole out of all rows gives
abbrev pub ScalarsCarry : Type 0
ScalarsCarry =
    (line begun : ℕ) (style : Style) (at : ℕ) (k : SurroundingsValue) (row : List ℕ) (rows : List (List ℕ)) (m m' : ScalarReaderValue) → new_row k ≡ k → begun < line → rows_in m ≡ line - (begun + 1) → KeepsSpaces m
    → reader_step m row ≡ GoesOn m' → remaining_output line (Within begun style at m k) (row ∷ rows) ≡ output_with_step line silent_step (remaining_output (line + 1) (Within begun style at m' k) rows)
