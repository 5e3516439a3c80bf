-- Meaning: what writing a text through a buffer has done.
use Rattle.std.specs.Prelude.{◌≡◌, ℕ, List, ◌++◌, Option}
use Rattle.std.specs.Io.KnownBytes.{Appends}

-- known bytes grow by a beginning of the text
pub record AppendsFront (old new : Option (List ℕ)) (text : List ℕ) : Type 0 where
  pub front : List ℕ
  pub rest : List ℕ
  pub whole : text ≡ front ++ rest
  pub appends : Appends old new front

-- of what waited and the text that came, a beginning went out, and the rest waits
pub record Passes (old new : Option (List ℕ)) (waited text waits : List ℕ) : Type 0 where
  pub out : List ℕ
  pub whole : waited ++ text ≡ out ++ waits
  pub appends : Appends old new out
