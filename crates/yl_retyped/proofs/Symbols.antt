-- A scalar among the marked lexemes of a document, directly behind a lexeme that asks for a value.
use Rattle.std.specs.Prelude.{ℕ, ◌≡◌, List, [], ◌∷◌, ◌++◌, slice_get}
use Rattle.yl_lexeme.specs.declared.lexeme.Kind.{Kind}
use Rattle.yl_lexeme.specs.Lexeme.{LexemeValue}
use Rattle.yl_marks.specs.declared.symbol.Symbol.{Symbol}
use Rattle.yl_marks.specs.declared.symbol.Symbol.TheVariants.{One}
use Rattle.yl_events.specs.Event.{start_at}

-- no lexeme of this index is among these symbols
abbrev pub NoneAt : ℕ → List Symbol → Type 0
NoneAt n [] = Unit {0}
NoneAt n (One kind i ∷ ws) = (i ≡ n → ⊥) × NoneAt n ws
NoneAt n (mark ∷ ws) = NoneAt n ws

-- of these symbols the lexeme of index n, of this kind, stands directly behind one of kind k, with no mark between
pub record StandsBehind (k kind : Kind) (n : ℕ) (ws : List Symbol) : Type 0 where
  pub front : List Symbol
  pub index : ℕ
  pub back : List Symbol
  pub parts : ws ≡ front ++ One k index ∷ One kind n ∷ back
  pub other : index ≡ n → ⊥
  pub none_before : NoneAt n front
  pub none_behind : NoneAt n back

-- the same lexemes but for the one of index n, which begins at the same place
pub record DifferAt (n : ℕ) (xs ys : List LexemeValue) : Type 0 where
  pub others : (i : ℕ) → (i ≡ n → ⊥) → slice_get xs i ≡ slice_get ys i
  pub start : start_at xs n ≡ start_at ys n
