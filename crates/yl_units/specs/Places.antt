-- Meaning: the place of a text that an editor names by a line and a number of units, and what an editor is told of a place. Lines and
-- columns count from 0; a column counts characters.
use Rattle.std.specs.Prelude.{◌≡◌, ◌↔◌, ℕ, ◌<◌, ◌≤◌, nat_lt, if◌then◌else◌, List, [], length, take, slice_get}
use Rattle.std.specs.Option.{option_map_or}
use Rattle.std.specs.Str.{chars, encode_utf8_all}
use Rattle.yl_text.specs.Lines.{RowValue}
use Rattle.yl_text.specs.Store.{end_of_lines}
use Rattle.yl_text.specs.declared.position.Pos.{Pos}
use Rattle.yl_units.specs.declared.encoding.Encoding.{Encoding}
use Rattle.yl_units.specs.declared.place.EditorPlace.{EditorPlace}
use Rattle.yl_units.specs.declared.walk.Reached.{Reached}
use Rattle.yl_units.specs.Units.{units_of, column_of}

-- the characters of a line without its break
abbrev pub row_chars : List RowValue → ℕ → List ℕ
row_chars ps i = option_map_or (λ p. chars p.text) (slice_get ps i) []

-- the place that an editor names: past a line's last character it is the line's end before its break, and past the last line the
-- text's end
abbrev pub place_of : Encoding → List RowValue → EditorPlace → Pos
place_of e ps p =
    if nat_lt p.line (length ps) then record { line = p.line; col = column_of e (row_chars ps p.line) p.units } else end_of_lines ps

-- what an editor is told of a place
abbrev pub told_place : Encoding → List RowValue → Pos → EditorPlace
told_place e ps p = record { line = p.line; units = units_of e (take p.col (row_chars ps p.line)) }

-- a place stands in a line, before its break
pub record IsInRow (ps : List RowValue) (p : Pos) : Type 0 where
  pub line : p.line < length ps
  pub column : p.col ≤ length (row_chars ps p.line)

-- how many bytes and units stand before a place in its line
pub record IsReached (e : Encoding) (ps : List RowValue) (r : Reached) : Type 0 where
  pub column : r.col ≤ length (row_chars ps r.line)
  pub byte : r.byte ≡ length (encode_utf8_all (take r.col (row_chars ps r.line)))
  pub units : r.units ≡ units_of e (take r.col (row_chars ps r.line))

-- before the first character of a line
abbrev pub row_start : ℕ → Reached
row_start i = record { line = i; col = 0; byte = 0; units = 0 }

-- what an editor is told of a place leads back to it
abbrev pub PlacesLeadBack : Type 0
PlacesLeadBack = (e : Encoding) (ps : List RowValue) (p : Pos) → IsInRow ps p → place_of e ps (told_place e ps p) ≡ p

-- a column is the last one of its line that has no more units before it than an editor names
abbrev pub ColumnsAreLast : Type 0
ColumnsAreLast = (e : Encoding) (cs : List ℕ) (units n : ℕ) → n ≤ length cs → ((n ≤ column_of e cs units) ↔ (units_of e (take n cs) ≤ units))

-- and one of its line
abbrev pub ColumnsAreWithin : Type 0
ColumnsAreWithin = (e : Encoding) (cs : List ℕ) (units : ℕ) → column_of e cs units ≤ length cs
