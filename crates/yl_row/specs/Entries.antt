-- Meaning: what a text consists of, row by row: for each row its state if it is sound, the lexemes
-- and the comment that begin in it, with positions relative to it, and the scan fault of the lexeme
-- that begins in it. YAML 1.2.2, chapters 5 to 9.
use Rattle.std.specs.Prelude.{ℕ, zero, suc, Bool, true, false, not, ◌&&◌, ◌||◌, ◌==◌, nat_lt, nat_le, if◌then◌else◌, List, [], ◌∷◌, ◌++◌, ◌+◌, ◌-◌, Option, Some, None}
use Rattle.std.specs.Option.{option_or}
use Rattle.std.specs.List.{filter}
use Rattle.std.specs.Str.{encode_utf8_all}
use Prim.Native.Char.{code}
use Rattle.yl_text.specs.declared.position.Pos.{Pos}
use Rattle.yl_text.specs.Character.{is_white, is_blank}
use Rattle.yl_lexeme.specs.declared.lexeme.Kind.{Kind}
use Rattle.yl_lexeme.specs.declared.lexeme.Kind.TheVariants.{DocEnd}
use Rattle.yl_lexeme.specs.Lexeme.{LexemeValue, CommentValue}
use Rattle.yl_row.specs.declared.fault.PlacedScanFault.{PlacedScanFault}
use Rattle.yl_row.specs.Fault.{is_unclosed, is_tab}
use Rattle.yl_lexeme.specs.Past.{PastLexeme, Context, context_from, at_place, past_lexeme}
use Rattle.yl_row.specs.Step.{FoundLexemeValue, found_at, place_fault, bad_in, first_tab}

-- the state of a sound row: a fault is in a row above, or the open columns, each listed as one more
-- and in descending order, the open brackets, the innermost first, and the kind of the last lexeme
pub data LineStateValue : Type 0 where
  Stopped : LineStateValue
  Stands : (levels : List ℕ) (brackets : List Kind) (last : Option Kind) → LineStateValue

pub record RowEntry : Type 0 where
  pub state : Option LineStateValue
  pub lexemes : List LexemeValue
  pub comment : Option CommentValue
  pub fault : Option PlacedScanFault

-- what a row holds from a position on. down and column: the next lexeme may begin from that column
-- on, so many rows further down. behind: what is known there
pub record RowReading (S : Type 0) : Type 0 where
  pub lexemes : List LexemeValue
  pub comment : Option CommentValue
  pub fault : Option PlacedScanFault
  pub down : ℕ
  pub column : ℕ
  pub behind : S

abbrev pub reading_below : {S : Type 0} → ℕ → ℕ → S → RowReading S
reading_below down column behind = record { lexemes = []; comment = None; fault = None; down = down; column = column; behind = behind }

abbrev pub with_lexeme : {S : Type 0} → LexemeValue → RowReading S → RowReading S
with_lexeme x r = record r { lexemes = x ∷ r.lexemes }

abbrev pub fault_reading : {S : Type 0} → PlacedScanFault → S → RowReading S
fault_reading f behind = record (reading_below 0 0 behind) { fault = Some f }

abbrev pub ends_document : Kind → Bool
ends_document DocEnd = true
ends_document _ = false

abbrev pub pos_at : ℕ → ℕ → Pos
pos_at line column = record { line = line; col = column }

abbrev pub lexeme_of : ℕ → FoundLexemeValue → LexemeValue
lexeme_of at found = record { kind = found.kind; start = pos_at 0 at; end = pos_at found.down found.column; value = found.value }

abbrev pub comment_of : ℕ → List ℕ → CommentValue
comment_of at text = record { column = at; text = encode_utf8_all text }

-- what follows a lexeme that ends in this row or further down
abbrev pub after_lexeme : {S : Type 0} → ℕ → FoundLexemeValue → S → (ℕ → RowReading S) → ℕ → RowReading S
after_lexeme at found behind more zero = more (found.column - at - 1)
after_lexeme at found behind more (suc down) = reading_below (suc down) found.column behind

-- a fault ends the reading, so nothing has to be known after it; the end marker of a document is
-- read even if it has a fault
abbrev pub reading_or_fault : {S : Type 0} → LexemeValue → S → RowReading S → Option PlacedScanFault → RowReading S
reading_or_fault x nothing more None = with_lexeme x more
reading_or_fault x nothing more (Some f) = if ends_document x.kind then with_lexeme x (fault_reading f nothing) else fault_reading f nothing

-- a row that ends with a comment, or with a fault in it
abbrev pub comment_or : {S : Type 0} → CommentValue → S → S → Option PlacedScanFault → RowReading S
comment_or c behind nothing None = record (reading_below 0 0 behind) { comment = Some c }
comment_or c behind nothing (Some f) = fault_reading f nothing

-- the row from a column on; rows are those below. tab: the column of the first tab of the row.
-- skip: the number of characters that still belong to the lexeme before. behind_space: the position
-- is after white space or at the start of the row. first: only white space is before it in the row
abbrev pub row_reading : List (List ℕ) → Option ℕ → ℕ → Bool → Bool → ℕ → List PastLexeme → List PastLexeme → List ℕ → RowReading (List PastLexeme)
row_reading rows tab skip behind_space first at here older [] = reading_below 0 0 (here ++ older)
row_reading rows tab skip behind_space first at here older (c ∷ cs) =
    let a = at_place first at (context_from here older) in
    let found = found_at rows tab first at a c cs in
    let here' = past_lexeme at first a found.kind ∷ here in
    let more = λ (skip : ℕ). row_reading rows tab skip false false (at + 1) here' older cs in
    if nat_lt 0 skip then row_reading rows tab (skip - 1) false first (at + 1) here older cs
    else if is_white c then row_reading rows tab 0 true first (at + 1) here older cs
    else if c == code "#" && behind_space then comment_or (comment_of at (c ∷ cs)) (here ++ older) [] (bad_in at (c ∷ cs))
    else reading_or_fault (lexeme_of at found) [] (after_lexeme at found (here' ++ older) more found.down)
    (option_or (place_fault tab first at a) found.fault)

-- the state of a row at whose start this is the context
abbrev pub state_of : Context → LineStateValue
state_of a = Stands a.levels a.brackets a.last

-- the colon of a key may make a tab before it a fault, which removes the lexemes that end after the
-- tab
abbrev pub lexemes_up_to_fault : Option PlacedScanFault → List LexemeValue → List LexemeValue
lexemes_up_to_fault None xs = xs
lexemes_up_to_fault (Some f) xs = if is_tab f.fault then filter (λ x. x.end.line == 0 && nat_le x.end.col f.column) xs else xs

-- a row in which nothing begins
abbrev pub quiet : Option LineStateValue → RowEntry
quiet state = record { state = state; lexemes = []; comment = None; fault = None }

-- the rows below a fault: first those in its reach, and then those at which reading has stopped; an
-- open quote reaches to the end of the text
abbrev pub stopped_rows : Bool → ℕ → List (List ℕ) → List RowEntry
stopped_rows to_end down [] = []
stopped_rows to_end zero (row ∷ rows) = quiet (if is_blank row || to_end then None else Some Stopped) ∷ stopped_rows to_end 0 rows
stopped_rows to_end (suc down) (row ∷ rows) = quiet None ∷ stopped_rows to_end down rows

-- the rows below one that was read so, or that has this fault
abbrev pub entries_below : {S : Type 0} → (ℕ → ℕ → S → List RowEntry) → List (List ℕ) → RowReading S → Option PlacedScanFault → List RowEntry
entries_below more rows r None = more r.down r.column r.behind
entries_below more rows r (Some f) = stopped_rows (is_unclosed f.fault) f.down rows

-- the entry of a row with this state that was read so
abbrev pub entry_of : {S : Type 0} → Option LineStateValue → RowReading S → RowEntry
entry_of s r = record { state = s; lexemes = lexemes_up_to_fault r.fault r.lexemes; comment = r.comment; fault = r.fault }

-- a row is sound if it begins inside no lexeme and is not blank; the first row of the text always
-- is
abbrev pub sound_state : Bool → List ℕ → Context → Option LineStateValue
sound_state is_text_start row a = if is_text_start || not (is_blank row) then Some (state_of a) else None

-- the entries from the row on that is `down` rows further down; column is 0 there, or the column
-- after a lexeme that ends in that row
abbrev pub entries_from : Bool → ℕ → ℕ → List PastLexeme → List (List ℕ) → List RowEntry
entries_from is_start down column older [] = []
entries_from is_start (suc zero) column older (row ∷ rows) =
    let r = row_reading rows (first_tab true row) column false false 0 [] older row in
    entry_of None r ∷ entries_below (λ down column older. entries_from false down column older rows) rows r r.fault
entries_from is_start (suc (suc down)) column older (row ∷ rows) = quiet None ∷ entries_from false (suc down) column older rows
entries_from is_start zero column older (row ∷ rows) =
    let r = row_reading rows (first_tab false row) 0 true true 0 [] older row in
    entry_of (sound_state is_start row (context_from [] older)) r ∷ entries_below (λ down column older. entries_from false down column older rows) rows r r.fault

-- the entries of the rows of a text
abbrev pub entries : List (List ℕ) → List RowEntry
entries text = entries_from true 0 0 [] text
