-- Meaning: what the grammar derives for a document, and where its parse fault is.
use Rattle.std.specs.Prelude.{ℕ, zero, suc, ◌≡◌, ◌<◌, ◌≤◌, List, [], ◌∷◌, ◌++◌}
use Rattle.yl_marks.specs.declared.symbol.Symbol.{Symbol}
use Rattle.yl_marks.specs.declared.symbol.Symbol.TheVariants.{One}
use Rattle.yl_events.specs.Grammar.{Document, spelling}
use Rattle.yl_events.specs.declared.symbol.Outline.{Outline}
use Rattle.yl_events.specs.Outlines.{events}

-- a document's marked lexemes are derived with these events
pub record Derives (ws : List Symbol) (es : List Outline) : Type 0 where
  pub tree : Document
  pub spelled : spelling tree ≡ ws
  pub events : events tree ≡ es

-- some derivation begins with these symbols
pub record BeginsDerivation (front : List Symbol) : Type 0 where
  pub tree : Document
  pub rest : List Symbol
  pub spelled : spelling tree ≡ front ++ rest

-- the first lexemes, of this number, with the marks before each
abbrev pub front : ℕ → List Symbol → List Symbol
front zero ws = []
front (suc n) [] = []
front (suc n) (One kind s ∷ ws) = One kind s ∷ front n ws
front (suc n) (mark ∷ ws) = mark ∷ front (suc n) ws

-- the number of lexemes among the symbols
abbrev pub lexeme_count : List Symbol → ℕ
lexeme_count [] = 0
lexeme_count (One kind s ∷ ws) = suc (lexeme_count ws)
lexeme_count (mark ∷ ws) = lexeme_count ws

-- the fault is at the first lexeme with which no beginning of a derivation is left, or at the end,
-- if the whole document has no derivation
pub record HasFaultAt (ws : List Symbol) (place : ℕ) : Type 0 where
  pub inside : place ≤ lexeme_count ws
  pub before : BeginsDerivation (front place ws)
  pub within : place < lexeme_count ws → BeginsDerivation (front (suc place) ws) → ⊥
  pub at_end : place ≡ lexeme_count ws → (es : List Outline) → Derives ws es → ⊥
