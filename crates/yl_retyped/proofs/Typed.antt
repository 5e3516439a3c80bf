-- A value that is typed anew: what stands before it in its line stays, and nothing stands behind it there.
use Rattle.std.specs.Prelude.{ℕ, ◌≡◌, ◌<◌, true, List, [], ◌∷◌}
use Rattle.yl_lexeme.specs.Lexeme.{LexemeValue}
use Rattle.yl_marks.specs.Keys.{token_of}
use Rattle.yl_retyped.specs.Retyped.{asks_for_value, is_scalar}

-- each of these lexemes begins below a line
abbrev pub AreBelow : ℕ → List LexemeValue → Type 0
AreBelow line [] = Unit {0}
AreBelow line (z ∷ zs) = (line < z.start.line) × AreBelow line zs

-- a scalar x stands behind p in a line, in which it ends; the lexemes after it begin below. y is x typed anew
pub record IsRetyped (p x y : LexemeValue) (after : List LexemeValue) : Type 0 where
  pub before : asks_for_value p.kind ≡ true
  pub beside : p.end.line ≡ x.start.line
  pub scalar : is_scalar x.kind ≡ true
  pub ends : x.end.line ≡ x.start.line
  pub token : token_of y ≡ token_of x
  pub last : AreBelow x.start.line after
