-- Bridge: the values of what the reading of a row returns.
use Rattle.std.specs.Prelude.{◌≡◌, ◌<◌, ℕ, ◌+◌, ◌-◌, false, List, ◌++◌, drop, length, Option, Some, None}
use Rattle.yl_lexeme.specs.declared.lexeme.Style.{Style}
use Rattle.yl_row.specs.declared.row.Next.{Next}
use Rattle.yl_row.specs.declared.row.Next.TheVariants.{Behind, Opens, Stops}
use Rattle.yl_row.specs.declared.row.RowEnd.{RowEnd}
use Rattle.yl_row.specs.declared.row.RowEnd.TheVariants.{Read, Opens as EndOpens, Stops as EndStops}
use Rattle.yl_lexeme.specs.Lexeme.{LexemeValue, CommentValue}
use Rattle.yl_row.specs.declared.fault.PlacedScanFault.{PlacedScanFault}
use Rattle.yl_row.specs.Step.{bad_in}
use Rattle.yl_row.specs.ScalarReader.{ScalarReaderValue, open_found}
use Rattle.yl_row.specs.Reader.{scalar_reader_value}
use Rattle.yl_row.specs.Begins.{Rests}
use Rattle.yl_lexeme.specs.Known.{SurroundingsValue, new_row, no_surroundings}
use Rattle.yl_row.specs.Entries.{RowReading, reading_below, fault_reading, reading_or_fault, after_lexeme, lexeme_of, comment_of, comment_or}
use Rattle.yl_row.specs.Run.{row_reading_by}

-- these lexemes, and then what is read
abbrev pub reading_with_lexemes : List LexemeValue → RowReading SurroundingsValue → RowReading SurroundingsValue
reading_with_lexemes xs r = record r { lexemes = xs ++ r.lexemes }

-- a scalar with a reader in this state, and these rows below; more: what its row holds after it
abbrev pub open_scalar_reading : List (List ℕ) → Style → ℕ → ScalarReaderValue → SurroundingsValue → (ℕ → RowReading SurroundingsValue) → RowReading SurroundingsValue
open_scalar_reading rows style at m k more =
    let f = open_found style at m rows in
    reading_or_fault (lexeme_of at f) no_surroundings (after_lexeme at f (new_row k) more f.down) f.fault

-- what follows a lexeme in its row
abbrev pub reading_after : {A : Type 0} → List (List ℕ) → ℕ → SurroundingsValue → (ℕ → SurroundingsValue → RowReading SurroundingsValue) → Next A → RowReading SurroundingsValue
reading_after rows at k more (Behind column) = more (column - at - 1) k
reading_after rows at k more (Opens style r) = open_scalar_reading rows style at (scalar_reader_value r) k (λ skip. more skip k)
reading_after rows at k more (Stops f) = fault_reading f no_surroundings

-- what follows a lexeme of one character, or its fault; more: what its row holds after it
abbrev pub behind_sign : SurroundingsValue → (ℕ → SurroundingsValue → RowReading SurroundingsValue) → Option PlacedScanFault → RowReading SurroundingsValue
behind_sign k more None = more 0 k
behind_sign k more (Some f) = fault_reading f no_surroundings

-- the end of a row that is read to its end, with its comment, if it has one
abbrev pub comment_end : SurroundingsValue → Option CommentValue → RowReading SurroundingsValue
comment_end k None = reading_below 0 0 (new_row k)
comment_end k (Some c) = record (reading_below 0 0 (new_row k)) { comment = Some c }

-- what a row holds from the end of the reading on
abbrev pub row_end_reading : {A : Type 0} → List (List ℕ) → Option ℕ → List ℕ → SurroundingsValue → RowEnd A → RowReading SurroundingsValue
row_end_reading rows tab row k (Read c) = comment_end k c
row_end_reading rows tab row k (EndOpens o) = open_scalar_reading rows o.style o.at (scalar_reader_value o.reader) k (λ skip. row_reading_by rows tab skip false false (o.at + 1) k (drop (o.at + 1) row))
row_end_reading rows tab row k (EndStops f) = fault_reading f no_surroundings

-- a row ends with a comment at this column, or with a fault in it
abbrev pub EndsInComment : {A : Type 0} → ℕ → List ℕ → RowEnd A → Type 0
EndsInComment at text end = (rows : List (List ℕ)) (tab : Option ℕ) (row : List ℕ) (k : SurroundingsValue) →
    comment_or (comment_of at text) (new_row k) no_surroundings (bad_in at text) ≡ row_end_reading rows tab row k end

-- a scalar that may go on below begins at this column, with this text from there on, and its reader
-- has read that row
abbrev pub NextRests : {A : Type 0} → ℕ → List ℕ → Next A → Type 0
NextRests at text (Behind column) = Unit {0}
NextRests at text (Opens style r) = Rests at text (scalar_reader_value r)
NextRests at text (Stops f) = Unit {0}

-- a scalar that a row leaves open begins in the row, and its reader has read the row
abbrev pub EndRests : {A : Type 0} → List ℕ → RowEnd A → Type 0
EndRests row (Read c) = Unit {0}
EndRests row (EndOpens o) = (o.at < length row) × Rests o.at (drop o.at row) (scalar_reader_value o.reader)
EndRests row (EndStops f) = Unit {0}
