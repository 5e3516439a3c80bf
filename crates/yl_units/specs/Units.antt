-- Meaning: a column in the units in which an editor counts (LSP 3.17, `PositionEncodingKind`): bytes of UTF-8, 16-bit units of
-- UTF-16, or characters.
use Rattle.std.specs.Prelude.{ℕ, suc, ◌+◌, ◌-◌, nat_le, if◌then◌else◌, List, [], ◌∷◌, length, encode_utf8}
use Rattle.std.specs.Char.Escape.{encode_utf16}
use Rattle.yl_units.specs.declared.encoding.Encoding.{Encoding}
use Rattle.yl_units.specs.declared.encoding.Encoding.TheVariants.{Utf8, Utf16, Utf32}

-- how many units a character has
abbrev pub width_of : Encoding → ℕ → ℕ
width_of Utf8 c = length (encode_utf8 c)
width_of Utf16 c = length (encode_utf16 c)
width_of Utf32 c = 1

-- how many units characters have
abbrev pub units_of : Encoding → List ℕ → ℕ
units_of e [] = 0
units_of e (c ∷ cs) = width_of e c + units_of e cs

-- how many characters stand before the place after so many units: inside a character it is the place before that one, and past the
-- last character the place after that one
abbrev pub column_of : Encoding → List ℕ → ℕ → ℕ
column_of e [] units = 0
column_of e (c ∷ cs) units = if nat_le (width_of e c) units then suc (column_of e cs (units - width_of e c)) else 0
