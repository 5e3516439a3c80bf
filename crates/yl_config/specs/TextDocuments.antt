-- Meaning: the documents of a text (YAML 1.2.2, chapter 9), each with what the grammar derives for
-- its lexemes.
use Rattle.std.specs.Prelude.{ℕ, ◌≡◌, ◌-◌, List, [], ◌∷◌, map, take, drop, Option}
use Rattle.yl_lexeme.specs.Lexeme.{LexemeValue}
use Rattle.yl_events.specs.declared.fault.PlacedParseFault.{PlacedParseFault}
use Rattle.yl_events.specs.Built.{Builds}
use Rattle.yl_events.specs.Documents.{beginnings}
use Rattle.yl_events.specs.Event.{EventValue}

-- ---- the lexemes of each document

-- one document begins with the first of these lexemes, before which there are `before` others, and
-- one with each of these indices
abbrev pub cut_behind : ℕ → List ℕ → List LexemeValue → List (List LexemeValue)
cut_behind before [] xs = xs ∷ []
cut_behind before (place ∷ places) xs = take (place - before) xs ∷ cut_behind place places (drop (place - before) xs)

abbrev pub cut_at : List ℕ → List LexemeValue → List (List LexemeValue)
cut_at [] xs = []
cut_at (place ∷ places) xs = cut_behind place places xs

abbrev pub documents_of : List LexemeValue → List (List LexemeValue)
documents_of xs = cut_at (beginnings (map (λ x. x.kind) xs)) xs

-- ---- the parsed documents

-- a document: its lexemes, and its events and no fault, or its parse fault and no events
pub record BuiltDocumentValue : Type 0 where
  pub lexemes : List LexemeValue
  pub events : List EventValue
  pub fault : Option PlacedParseFault

pub record IsBuilt (xs : List LexemeValue) (d : BuiltDocumentValue) : Type 0 where
  pub lexemes : d.lexemes ≡ xs
  pub builds : Builds xs d.events d.fault

-- the documents of these lists of lexemes, one after another
abbrev pub AreBuilt : List (List LexemeValue) → List BuiltDocumentValue → Type 0
AreBuilt [] [] = Unit {0}
AreBuilt [] (d ∷ ds) = ⊥
AreBuilt (xs ∷ more) [] = ⊥
AreBuilt (xs ∷ more) (d ∷ ds) = IsBuilt xs d × AreBuilt more ds
