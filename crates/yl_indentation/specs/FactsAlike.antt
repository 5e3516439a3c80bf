-- Bridge: the facts of the rule indentation in rows depend on what is held before the rows, without
-- line numbers and counts of lexemes.
use Rattle.std.specs.Prelude.{ℕ, ◌≡◌, ◌+◌, ◌<◌, Bool, List, ◌++◌, length, map, Option, IfSome}
use Rattle.std.specs.Option.{option_map}
use Rattle.yl_lexeme.specs.declared.lexeme.Kind.{Kind}
use Rattle.yl_marks.specs.declared.token.Token.{Token}
use Rattle.yl_marks.specs.declared.symbol.Symbol.{Symbol}
use Rattle.yl_marks.specs.MarksAlike.{symbol_after, token_below}
use Rattle.yl_indentation.specs.declared.context.OpenCollection.{OpenCollection}
use Rattle.yl_indentation.specs.declared.fact.Fact.{Fact}
use Rattle.yl_indentation.specs.Context.{ContextValue}
use Rattle.yl_indentation.specs.SymbolFacts.{behind_symbols, facts_left}

-- ---- rows further down

-- a fact this many lines below
abbrev pub fact_below : ℕ → Fact → Fact
fact_below n f = record { line = n + f.line; column = f.column; expectation = f.expectation }

-- ---- what is held before rows

-- what a context holds, without lines
pub record ContextState : Type 0 where
  pub open_ones : List OpenCollection
  pub latest : Option Kind
  pub just_opened : Bool

abbrev pub context_state : ContextValue → ContextState
context_state c = record {
  open_ones = c.open_ones;
  latest = option_map (λ x. x.kind) c.latest;
  just_opened = c.just_opened;
}

-- its latest lexeme ends above this line
abbrev pub IsAbove : ℕ → ContextValue → Type 0
IsAbove line c = IfSome c.latest (λ x. x.end_line < line)

-- ---- rows of a document, after earlier lexemes and the leading spaces of the lines above

-- all lexemes. Those of the rows count their lines from the first of the rows
abbrev pub with_earlier : List Token → List ℕ → List Token → List Token
with_earlier earlier above tokens = earlier ++ map (token_below (length above)) tokens

-- the facts of the rows' symbols, where this is held before the rows and so many of their lexemes
-- count. The symbols count lexemes from the first of the rows
abbrev pub facts_of_rows : ContextValue → List Token → List ℕ → List Token → ℕ → List ℕ
    → List Symbol → List Fact
facts_of_rows c earlier above tokens counted lines ws =
    facts_left c (with_earlier earlier above tokens) (length earlier + counted) (above ++ lines)
    (map (symbol_after (length earlier)) ws)

-- what is held after the rows
abbrev pub after_rows : ContextValue → List Token → List ℕ → List Token → List ℕ → List Symbol
    → ContextValue
after_rows c earlier above tokens lines ws =
    behind_symbols (with_earlier earlier above tokens) (above ++ lines) c
    (map (symbol_after (length earlier)) ws)

-- rows are told alike in two places: each fact stands as far below the one place as below the
-- other, and the same is held after them
pub record AreToldAlike (a b : ContextValue) (earlier_a earlier_b tokens : List Token)
    (above_a above_b lines : List ℕ) (counted : ℕ) (ws : List Symbol) : Type 0 where
  pub facts : map (fact_below (length above_b)) (facts_of_rows a earlier_a above_a tokens counted lines ws)
      ≡ map (fact_below (length above_a)) (facts_of_rows b earlier_b above_b tokens counted lines ws)
  pub after : context_state (after_rows a earlier_a above_a tokens lines ws)
      ≡ context_state (after_rows b earlier_b above_b tokens lines ws)

-- no lines, no counts: rows are told alike wherever the same is held before them
abbrev pub FactsAreAlike : Type 0
FactsAreAlike = (a b : ContextValue) (earlier_a earlier_b tokens : List Token)
    (above_a above_b lines : List ℕ) (counted : ℕ) (ws : List Symbol) →
    context_state a ≡ context_state b → IsAbove (length above_a) a → IsAbove (length above_b) b →
    AreToldAlike a b earlier_a earlier_b tokens above_a above_b lines counted ws
