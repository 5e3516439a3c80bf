-- What a value that is typed anew leaves as it was.
use Rattle.std.specs.Prelude.{ℕ, suc, ◌≡◌, true, List, ◌∷◌, ◌++◌, length, map}
use Rattle.yl_lexeme.specs.declared.lexeme.Kind.{Kind}
use Rattle.yl_lexeme.specs.declared.lexeme.Style.{Style}
use Rattle.yl_lexeme.specs.declared.lexeme.Kind.TheVariants.{Scalar}
use Rattle.yl_lexeme.specs.Lexeme.{LexemeValue}
use Rattle.yl_marks.specs.declared.facts.KeyFacts.{KeyFacts}
use Rattle.yl_marks.specs.declared.symbol.Symbol.{Symbol}
use Rattle.yl_marks.specs.Facts.{key_facts}
use Rattle.yl_marks.specs.Marks.{symbols_of_lexemes}
use Rattle.yl_lexeme_rules.specs.declared.options.LexemeOptions.{LexemeOptions}
use Rattle.yl_lexeme_rules.specs.Lexemes.{lexeme_findings}
use Rattle.yl_events.specs.declared.symbol.Outline.{Outline}
use Rattle.yl_events.specs.Event.{event_of_outline}
use Rattle.yl_events.specs.Derives.{Derives}
use Rattle.yl_tree.specs.declared.options.TreeOptions.{TreeOptions}
use Rattle.yl_tree.specs.Tree.{tree_findings}
use Rattle.yl_retyped.specs.Retyped.{IsQuiet, asks_for_value, no_key}
use Rattle.yl_retyped.proofs.Typed.{IsRetyped}
use Rattle.yl_retyped.proofs.Symbols.{DifferAt, StandsBehind}

-- no mark stands between it and the lexeme before it
abbrev pub MarksLaw : Type 0
MarksLaw = (pre : List LexemeValue) (p x y : LexemeValue) (post : List LexemeValue) → IsRetyped p x y post
    → StandsBehind p.kind x.kind (suc (length pre)) (symbols_of_lexemes (pre ++ p ∷ x ∷ post))

-- the document's keys say nothing of it
pub record SayNothing (n : ℕ) (keys : List KeyFacts) : Type 0 where
  pub before : List KeyFacts
  pub after : List KeyFacts
  pub parts : keys ≡ before ++ no_key ∷ after
  pub len : length before ≡ n

abbrev pub FactsLaw : Type 0
FactsLaw = (pre : List LexemeValue) (p x y : LexemeValue) (post : List LexemeValue) → IsRetyped p x y post
    → SayNothing (suc (length pre)) (key_facts (pre ++ p ∷ x ∷ post))

-- the rules on lexemes find the same
abbrev pub FindingsLaw : Type 0
FindingsLaw = (o : LexemeOptions) (counted : ℕ) (pre : List LexemeValue) (p x y : LexemeValue) (post : List LexemeValue) → IsRetyped p x y post
    → SayNothing (suc (length pre)) (key_facts (pre ++ p ∷ x ∷ post)) → IsQuiet o x → IsQuiet o y
    → lexeme_findings o counted (pre ++ p ∷ x ∷ post) ≡ lexeme_findings o counted (pre ++ p ∷ y ∷ post)

-- the rules on keys and anchors find the same
abbrev pub EventsLaw : Type 0
EventsLaw = (o : TreeOptions) (ws : List Symbol) (es : List Outline) (k : Kind) (style : Style) (n : ℕ) (xs ys : List LexemeValue)
    → asks_for_value k ≡ true → StandsBehind k (Scalar style) n ws → DifferAt n xs ys → Derives ws es
    → tree_findings o (map (event_of_outline xs) es) ≡ tree_findings o (map (event_of_outline ys) es)
