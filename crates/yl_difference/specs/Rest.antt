-- Bridge: what stands of a text from a place on.
use Rattle.std.specs.Prelude.{◌≡◌, ℕ, ◌≤◌, ◌-◌, List, length, drop}
use Rattle.yl_text.specs.declared.position.Pos.{Pos}
use Rattle.yl_text.specs.Lines.{lines_of}
use Rattle.yl_text.specs.Edit.{IsInText, back_at}

-- the lines of the text from this one on are those of the rest
abbrev pub IsRest : List ℕ → ℕ → List ℕ → Type 0
IsRest text line rest = drop line (lines_of text) ≡ lines_of rest

-- the rest stands from the place on
pub record IsFrom (text : List ℕ) (p : Pos) (rest : List ℕ) : Type 0 where
  pub inside : IsInText (lines_of text) p
  pub rest_is : back_at (lines_of text) p ≡ rest

-- both texts end in the same bytes, so many
pub record AreAlike (xs ys : List ℕ) (n : ℕ) : Type 0 where
  pub first : n ≤ length xs
  pub second : n ≤ length ys
  pub same : drop (length xs - n) xs ≡ drop (length ys - n) ys
