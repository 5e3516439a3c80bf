-- Meaning: lists of lines, ranges of them, and the position at their end. Lines and columns are
-- counted from 0.
use Rattle.std.specs.Prelude.{ℕ, ◌≤◌, ◌-◌, List, length, slice_get}
use Rattle.std.specs.Option.{option_map_or}
use Rattle.std.specs.Str.{chars}
use Rattle.yl_text.specs.Lines.{RowValue, text_of, IsLines}
use Rattle.yl_text.specs.declared.TheConstants.{MAX_BYTES}
use Rattle.yl_text.specs.declared.position.Pos.{Pos}

-- the rows are the lines of their text, which has at most `MAX_BYTES` bytes
pub record AreLines (ps : List RowValue) : Type 0 where
  pub lines : IsLines (text_of ps) ps
  pub short : length (text_of ps) ≤ MAX_BYTES

-- a to b, b not included, is a range within `len` rows
pub record IsRange (a b len : ℕ) : Type 0 where
  pub ordered : a ≤ b
  pub within : b ≤ len

-- the position after the last character of the last line
abbrev pub end_of_lines : List RowValue → Pos
end_of_lines rows =
    let i = length rows - 1 in record { line = i; col = option_map_or (λ row. length (chars row.text)) (slice_get rows i) 0 }
