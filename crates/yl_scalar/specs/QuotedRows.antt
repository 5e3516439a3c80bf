-- Meaning: a quoted scalar by the rows that it takes: YAML 1.2.2, 7.3.1, 7.3.2, 6.5 and 5.7. Its
-- first row is what follows the opening quote.
use Rattle.std.specs.Prelude.{◌≡◌, ℕ, Bool, true, false, not, ◌&&◌, ◌||◌, ◌==◌, nat_lt, if◌then◌else◌, List, [], ◌∷◌, ◌++◌, ◌+◌, ◌-◌, length, take, drop, slice_index, Option, Some, None, option_map, is_some}
use Rattle.std.specs.List.{prefix_len, list_all}
use Prim.Native.Char.{code}
use Rattle.yl_text.specs.Character.{is_white, is_blank, is_marker, without_front}
use Rattle.yl_scalar.specs.Allowed.{is_quoted_character}
use Rattle.yl_scalar.specs.Escape.{escape}
use Rattle.yl_scalar.specs.Folding.{joint}
use Rattle.yl_scalar.specs.Quoted.{quote}
use Rattle.yl_scalar.specs.QuotedSteps.{quoted}
use Rattle.yl_scalar.specs.Reading.{ScalarOutcomeValue, Whole, Refused}
use Rattle.yl_scalar.specs.declared.answer.ScalarFault.{ScalarFault}
use Rattle.yl_scalar.specs.declared.answer.ScalarFault.TheVariants.{NotAllowed, UnclosedQuote, MarkerInQuote, BadEscape}

-- ---- what a row is made of

-- where a scalar stops: at its closing quote, or at a fault
pub data Stop : Type 0 where
  Closed : Stop
  Faulted : (fault : ScalarFault) → Stop

-- a character of the value, which takes `width` characters of the row; white space that is not
-- escaped; the backslash at the end of the row (s-double-escaped); or where the scalar stops
pub data Glyph : Type 0 where
  Content : (c width : ℕ) → Glyph
  White : (c : ℕ) → Glyph
  RowEnd : Glyph
  Stops : (stop : Stop) → Glyph

abbrev pub escaped : Option (ℕ × ℕ) → Glyph
escaped None = Stops (Faulted BadEscape)
escaped (Some e) = Content e.0 (e.1 + 2)

-- the glyph that begins with this character, by the characters after it: a doubled quote is content
-- in single quotes, and an escape in double quotes
abbrev pub glyph_at : Bool → ℕ → List ℕ → Glyph
glyph_at double c cs =
    if c == quote double then (if not double && slice_index cs 0 == code "'" then Content c 2 else Stops Closed)
    else if double && c == code "\\" then (if length cs == 0 then RowEnd else escaped (escape cs))
    else if is_quoted_character c then (if is_white c then White c else Content c 1)
    else Stops (Faulted NotAllowed)

abbrev pub width : Glyph → ℕ
width (Content c n) = n
width _ = 1

-- the glyphs of a row, after the first `skip` characters
abbrev pub glyphs : Bool → ℕ → List ℕ → List Glyph
glyphs double skip [] = []
glyphs double skip (c ∷ cs) =
    if nat_lt 0 skip then glyphs double (skip - 1) cs else glyph_at double c cs ∷ glyphs double (width (glyph_at double c cs) - 1) cs

-- the glyphs of a row below the first, from its first character on that is not white space
abbrev pub row_glyphs : Bool → List ℕ → List Glyph
row_glyphs double row = glyphs double 0 (without_front row)

-- ---- the extent: up to the first glyph with which the scalar stops

-- the column of the stop, if the glyphs begin at this one, and the stop
abbrev pub stop_in : ℕ → List Glyph → Option (ℕ × Stop)
stop_in column [] = None
stop_in column (Stops s ∷ gs) = Some (column, s)
stop_in column (Content c n ∷ gs) = stop_in (column + n) gs
stop_in column (White c ∷ gs) = stop_in (column + 1) gs
stop_in column (RowEnd ∷ gs) = stop_in (column + 1) gs

abbrev pub row_stop : Bool → List ℕ → Option (ℕ × Stop)
row_stop double row = stop_in (prefix_len is_white row) (row_glyphs double row)

-- the scalar stops in this row below its first one
abbrev pub stops_in : Bool → List ℕ → Bool
stops_in double row = is_marker row || is_some (row_stop double row)

-- the number of rows before the one in which the scalar stops
abbrev pub rows_passed : Bool → List (List ℕ) → ℕ
rows_passed double [] = 0
rows_passed double (row ∷ rows) = if stops_in double row then 0 else 1 + rows_passed double rows

-- ---- the value

abbrev pub glyph_text : Glyph → List ℕ
glyph_text (Content c n) = c ∷ []
glyph_text (White c) = c ∷ []
glyph_text RowEnd = []
glyph_text (Stops s) = []

-- the row's text before the stop
abbrev pub text_before : List Glyph → List ℕ
text_before [] = []
text_before (Stops s ∷ gs) = []
text_before (g ∷ gs) = glyph_text g ++ text_before gs

abbrev pub is_white_glyph : Glyph → Bool
is_white_glyph (White c) = true
is_white_glyph _ = false

-- the text of a row after which the scalar continues, without the white space at its end
abbrev pub row_text : List Glyph → List ℕ
row_text [] = []
row_text (g ∷ gs) = if list_all is_white_glyph (g ∷ gs) then [] else glyph_text g ++ row_text gs

-- the column of the backslash that ends the row, if one does
abbrev pub backslash_in : ℕ → List Glyph → Option ℕ
backslash_in column [] = None
backslash_in column (RowEnd ∷ gs) = Some column
backslash_in column (g ∷ gs) = backslash_in (column + width g) gs

abbrev pub row_backslash : Bool → List ℕ → Option ℕ
row_backslash double row = backslash_in (prefix_len is_white row) (row_glyphs double row)

-- the text of these rows followed by `last`, below `blanks` blank rows and a row that may end in a
-- backslash
abbrev pub folded : Bool → Option ℕ → ℕ → List (List ℕ) → List ℕ → List ℕ
folded double backslash blanks [] last = joint backslash blanks ++ last
folded double backslash blanks (row ∷ rows) last =
    if is_blank row then folded double backslash (blanks + 1) rows last
    else joint backslash blanks ++ row_text (row_glyphs double row) ++ folded double (row_backslash double row) 0 rows last

-- ---- how the scalar ends

-- the scalar stops in this row, with this value if it is closed; or it continues
abbrev pub stopped : ℕ → List ℕ → Option (ℕ × Stop) → ScalarOutcomeValue → ScalarOutcomeValue
stopped down value None more = more
stopped down value (Some (column, Closed)) more = Whole (record { down = down; column = column + 1; value = value })
stopped down value (Some (column, Faulted fault)) more = Refused fault down column

-- the place of the backslash that ends the last of these rows, or, if there are none, the row above
-- them, which is `down` rows below the first
abbrev pub last_backslash : Bool → ℕ → Option ℕ → List (List ℕ) → Option (ℕ × ℕ)
last_backslash double down backslash [] = option_map (λ column. (down, column)) backslash
last_backslash double down backslash (row ∷ rows) = last_backslash double (down + 1) (row_backslash double row) rows

-- the text ends before the scalar is closed: after a backslash, or not
abbrev pub unclosed : ℕ → Option (ℕ × ℕ) → ScalarOutcomeValue
unclosed opening None = Refused UnclosedQuote 0 opening
unclosed opening (Some p) = Refused BadEscape p.0 p.1

-- the scalar stops in the first of these rows, `down` rows below its first row, or the text ends
abbrev pub stopped_below : Bool → ℕ → ℕ → (List ℕ → List ℕ) → Option (ℕ × ℕ) → List (List ℕ) → ScalarOutcomeValue
stopped_below double opening down above backslash [] = unclosed opening backslash
stopped_below double opening down above backslash (row ∷ rows) =
    if is_marker row then Refused MarkerInQuote down 0
    else stopped down (above (text_before (row_glyphs double row))) (row_stop double row) (unclosed opening None)

-- the scalar below a first row of these glyphs, if it passes n rows
abbrev pub below_first : Bool → ℕ → List Glyph → ℕ → List (List ℕ) → ScalarOutcomeValue
below_first double opening gs n rows =
    let backslash = backslash_in (opening + 1) gs in
    stopped_below double opening (n + 1) (λ last. row_text gs ++ folded double backslash 0 (take n rows) last) (last_backslash double 0 backslash (take n rows)) (drop n rows)

abbrev pub of_rows : Bool → ℕ → List ℕ → List (List ℕ) → ScalarOutcomeValue
of_rows double opening first rows =
    let gs = glyphs double 0 first in
    stopped 0 (text_before gs) (stop_in (opening + 1) gs) (below_first double opening gs (rows_passed double rows) rows)

-- a quoted scalar that is read line by line is the one that is defined by the rows that it takes
abbrev pub QuotedRowsLaw : Type 0
QuotedRowsLaw = (double : Bool) (opening : ℕ) (first : List ℕ) (rows : List (List ℕ)) → quoted double opening first rows ≡ of_rows double opening first rows
