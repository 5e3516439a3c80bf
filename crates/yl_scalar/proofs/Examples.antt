-- Worked rows: quoted scalars by their rows.
use Rattle.std.specs.Prelude.{◌≡◌, refl, true, false, [], ◌∷◌, ◌++◌, codes}
use Rattle.yl_scalar.specs.Reading.{Whole, Refused}
use Rattle.yl_scalar.specs.QuotedRows.{of_rows}
use Rattle.yl_scalar.specs.declared.answer.ScalarFault.TheVariants.{NotAllowed, UnclosedQuote, MarkerInQuote, BadEscape}

-- `'it''s` and `x' y`: one break is a space
pub doubled_quote : of_rows false 0 (codes "it''s ") (codes "  x' y" ∷ []) ≡ Whole (record { down = 1; column = 4; value = codes "it's x" })
doubled_quote = refl

-- `"a`, a blank row, `\x62\` and ` c"`: a break before a blank row is a line feed, a break behind a backslash is nothing
pub folded_rows : of_rows true 2 (codes "a") ([] ∷ codes "  \\x62\\" ∷ codes " c\"" ∷ []) ≡ Whole (record { down = 3; column = 3; value = codes "a" ++ 10 ∷ codes "bc" })
folded_rows = refl

-- white space that a backslash escapes stays before a break
pub escaped_white : of_rows true 0 (codes "a\\ ") (codes "\"" ∷ []) ≡ Whole (record { down = 1; column = 1; value = codes "a  " })
escaped_white = refl

pub not_allowed : of_rows false 0 (codes "a" ++ 1 ∷ codes "'") [] ≡ Refused NotAllowed 0 2
not_allowed = refl

pub bad_escape : of_rows true 0 (codes "ab\\q\"") [] ≡ Refused BadEscape 0 3
bad_escape = refl

pub marker : of_rows true 0 (codes "a") (codes "--- b\"" ∷ []) ≡ Refused MarkerInQuote 1 0
marker = refl

pub open_quote : of_rows true 4 (codes "a\\") ([] ∷ []) ≡ Refused UnclosedQuote 0 4
open_quote = refl

-- half an escape at the text's end
pub half_escape : of_rows true 4 (codes "a") (codes " b\\" ∷ []) ≡ Refused BadEscape 1 2
half_escape = refl
