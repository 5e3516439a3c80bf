-- Bridge: a row that holds only a comment.
use Rattle.std.specs.Prelude.{◌≡◌, ℕ, Bool, ◌==◌, true, List, take, drop, length, None}
use Rattle.std.specs.Str.{encode_utf8_all}
use Prim.Native.Char.{code}
use Rattle.yl_text.specs.Character.{is_blank, starts_by}
use Rattle.yl_text.specs.Special.{special_place}
use Rattle.yl_scalar.specs.Allowed.{first_bad}
use Rattle.yl_lexeme.specs.Lexeme.{CommentValue}

-- whether a comment begins with this character
abbrev pub is_sign : ℕ → Bool
is_sign c = c == code "#"

-- a row, given by its characters, has this comment, and only white space before it
pub record HoldsAlone (row : List ℕ) (c : CommentValue) : Type 0 where
  pub white : is_blank (take c.column row) ≡ true
  pub sign : starts_by is_sign (drop c.column row) ≡ true
  pub allowed : first_bad (drop c.column row) ≡ None
  pub text : c.text ≡ encode_utf8_all (drop c.column row)

-- a row, given by its bytes, has a comment of printable ASCII at this place, and only white space
-- before it
pub record PlainCommentAt (row : List ℕ) (at : ℕ) : Type 0 where
  pub white : is_blank (take at row) ≡ true
  pub sign : starts_by is_sign (drop at row) ≡ true
  pub printable : special_place (drop at row) ≡ length (drop at row)
