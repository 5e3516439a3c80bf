-- Bridge: the entries of the rows of a text, by what a scanner keeps of the lexemes before them.
use Rattle.std.specs.Prelude.{ℕ, zero, suc, Bool, true, false, ◌&&◌, ◌==◌, nat_lt, if◌then◌else◌, List, [], ◌∷◌, ◌+◌, ◌-◌, Option, None}
use Rattle.std.specs.Option.{option_or}
use Prim.Native.Char.{code}
use Rattle.yl_text.specs.Character.{is_white}
use Rattle.yl_row.specs.Step.{FoundLexemeValue, found_at, place_fault, bad_in, first_tab}
use Rattle.yl_lexeme.specs.Past.{past_lexeme}
use Rattle.yl_lexeme.specs.Known.{SurroundingsValue, context_of, new_row, surroundings_at, no_surroundings, surroundings_behind}
use Rattle.yl_row.specs.Entries.{RowEntry, RowReading, reading_below, reading_or_fault, comment_or, comment_of, lexeme_of, after_lexeme, quiet, entries_below, entry_of, sound_state}

-- k: what is kept at the position of the lexeme
abbrev pub lexeme_reading_by : Option ℕ → Bool → ℕ → SurroundingsValue → (ℕ → SurroundingsValue → RowReading SurroundingsValue) → FoundLexemeValue → RowReading SurroundingsValue
lexeme_reading_by tab first at k more found =
    let k' = surroundings_behind (past_lexeme at first (context_of k) found.kind) k in
    reading_or_fault (lexeme_of at found) no_surroundings (after_lexeme at found (new_row k') (λ skip. more skip k') found.down)
    (option_or (place_fault tab first at (context_of k)) found.fault)

abbrev pub row_reading_by : List (List ℕ) → Option ℕ → ℕ → Bool → Bool → ℕ → SurroundingsValue → List ℕ → RowReading SurroundingsValue
row_reading_by rows tab skip behind_space first at k [] = reading_below 0 0 (new_row k)
row_reading_by rows tab skip behind_space first at k (c ∷ cs) =
    if nat_lt 0 skip then row_reading_by rows tab (skip - 1) false first (at + 1) k cs
    else if is_white c then row_reading_by rows tab 0 true first (at + 1) k cs
    else if c == code "#" && behind_space then comment_or (comment_of at (c ∷ cs)) (new_row k) no_surroundings (bad_in at (c ∷ cs))
    else lexeme_reading_by tab first at (surroundings_at first at k) (λ skip k. row_reading_by rows tab skip false false (at + 1) k cs)
    (found_at rows tab first at (context_of (surroundings_at first at k)) c cs)

-- the entries from the row on that is `down` rows further down; column is 0 there, or the column
-- after a lexeme that ends in that row
abbrev pub entries_by : Bool → ℕ → ℕ → SurroundingsValue → List (List ℕ) → List RowEntry
entries_by is_text_start down column k [] = []
entries_by is_text_start (suc zero) column k (row ∷ rows) =
    let r = row_reading_by rows (first_tab true row) column false false 0 k row in
    entry_of None r ∷ entries_below (λ down column k. entries_by false down column k rows) rows r r.fault
entries_by is_text_start (suc (suc down)) column k (row ∷ rows) = quiet None ∷ entries_by false (suc down) column k rows
entries_by is_text_start zero column k (row ∷ rows) =
    let r = row_reading_by rows (first_tab false row) 0 true true 0 k row in
    entry_of (sound_state is_text_start row (context_of k)) r ∷ entries_below (λ down column k. entries_by false down column k rows) rows r r.fault
