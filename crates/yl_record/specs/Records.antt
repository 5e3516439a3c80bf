-- Meaning: what is kept of a text, row by row: the number of spaces at the start of a row, and its
-- entry.
use Rattle.std.specs.Prelude.{ℕ, List, [], ◌∷◌, map}
use Rattle.std.specs.Str.{chars}
use Rattle.yl_text.specs.Character.{indentation}
use Rattle.yl_text.specs.Lines.{RowValue}
use Rattle.yl_row.specs.Entries.{RowEntry, entries}

abbrev pub characters_in : List RowValue → List (List ℕ)
characters_in rows = map (λ row. chars row.text) rows

pub record RecordValue : Type 0 where
  pub indentation : ℕ
  pub entry : RowEntry

-- entries, each with the number of spaces at the start of its row
abbrev pub records_with : List ℕ → List RowEntry → List RecordValue
records_with (n ∷ ns) (e ∷ es) = record { indentation = n; entry = e } ∷ records_with ns es
records_with _ _ = []

-- the records of a text of these rows, each given as its characters
abbrev pub records : List (List ℕ) → List RecordValue
records rows = records_with (map indentation rows) (entries rows)
