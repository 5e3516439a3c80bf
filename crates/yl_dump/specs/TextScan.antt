-- Bridge: a scanner, and the lines of a text that it is still to be fed.
use Rattle.std.specs.Prelude.{◌≡◌, ◌+◌, ◌≤◌, ℕ, Bool, true, false, List, [], length}
use Rattle.yl_text.specs.declared.TheConstants.{MAX_BYTES}
use Rattle.yl_text.specs.Lines.{RowValue, lines_of}
use Rattle.yl_scan.specs.Remaining.{PhaseValue}

pub record TextScannerValue : Type 0 where
  pub line : ℕ  -- how many lines were read
  pub stand : PhaseValue  -- where the scanner stands before the next one
  pub rows : List RowValue  -- the lines that are still to be read
  pub states : Bool  -- its steps have states

-- the lines of the rest of a text; where its last line was read there is none
abbrev pub rows_of : Bool → List ℕ → List RowValue
rows_of true rest = []
rows_of false rest = lines_of rest

-- before each line that was read some byte was read, its break at least; each was counted
pub record IsInText (line counted : ℕ) (rest : List ℕ) : Type 0 where
  pub few : line + length rest ≤ MAX_BYTES
  pub each : counted ≡ line
