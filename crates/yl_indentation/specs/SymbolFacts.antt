-- Bridge: the facts of a document, symbol by symbol, from a summary of the symbols before.
use Rattle.std.specs.Prelude.{ℕ, ◌≡◌, ◌≤◌, nat_lt, List, [], ◌∷◌, ◌++◌, map, Option, Some, None, slice_get}
use Rattle.yl_lexeme.specs.Lexeme.{LexemeValue}
use Rattle.yl_marks.specs.declared.token.Token.{Token}
use Rattle.yl_marks.specs.declared.symbol.Collection.TheVariants.{Sequence, Mapping}
use Rattle.yl_marks.specs.declared.symbol.Symbol.{Symbol}
use Rattle.yl_marks.specs.declared.symbol.Symbol.TheVariants.{OpenSequence, OpenMapping, BeginKey, Close, One}
use Rattle.yl_marks.specs.Keys.{token_of}
use Rattle.yl_marks.specs.Marks.{column_at, marked_lexemes, symbols_of_lexemes}
use Rattle.yl_marks.specs.ByLine.{HaveIndices}
use Rattle.yl_indentation.specs.declared.element.Element.{Element}
use Rattle.yl_indentation.specs.declared.element.Element.TheVariants.{Opening, Closing}
use Rattle.yl_indentation.specs.declared.fact.Fact.{Fact}
use Rattle.yl_indentation.specs.Elements.{lexeme_element}
use Rattle.yl_indentation.specs.SlimElements.{slim_element}
use Rattle.yl_indentation.specs.Facts.{indent_facts}
use Rattle.yl_indentation.specs.Context.{ContextValue, nothing_open, after, fact_in}

-- the element of a symbol in a document with these lexemes, without the surroundings that no rule
-- uses. A mark that a key begins has no element
abbrev pub element_of_symbol : List Token → ℕ → List ℕ → Symbol → Option Element
element_of_symbol tokens counted indentations (OpenSequence i) =
    Some (Opening Sequence (column_at tokens i))
element_of_symbol tokens counted indentations (OpenMapping i) =
    Some (Opening Mapping (column_at tokens i))
element_of_symbol tokens counted indentations (BeginKey i) = None
element_of_symbol tokens counted indentations Close = Some Closing
element_of_symbol tokens counted indentations (One kind i) =
    Some (slim_element (lexeme_element tokens counted indentations i (slice_get tokens i)))

abbrev pub facts_if : ContextValue → Option Element → List Fact
facts_if c None = []
facts_if c (Some e) = fact_in c e

abbrev pub after_if : Option Element → ContextValue → ContextValue
after_if None c = c
after_if (Some e) c = after e c

-- the summary after one more symbol. It does not depend on which lexemes count
abbrev pub behind_symbol : List Token → List ℕ → ContextValue → Symbol → ContextValue
behind_symbol tokens indentations c w = after_if (element_of_symbol tokens 0 indentations w) c

abbrev pub behind_symbols : List Token → List ℕ → ContextValue → List Symbol → ContextValue
behind_symbols tokens indentations c [] = c
behind_symbols tokens indentations c (w ∷ ws) =
    behind_symbols tokens indentations (behind_symbol tokens indentations c w) ws

-- the facts of these symbols, in a document with these lexemes of which the first `counted` count
abbrev pub facts_left : ContextValue → List Token → ℕ → List ℕ → List Symbol → List Fact
facts_left c tokens counted indentations [] = []
facts_left c tokens counted indentations (w ∷ ws) =
    facts_if c (element_of_symbol tokens counted indentations w)
    ++ facts_left (behind_symbol tokens indentations c w) tokens counted indentations ws

-- ---- laws

-- the facts of all symbols of a document are the facts of the document
abbrev pub FactsAreBySymbols : Type 0
FactsAreBySymbols = (xs : List LexemeValue) (counted : ℕ) (indentations : List ℕ) →
    facts_left nothing_open (map token_of xs) counted indentations (symbols_of_lexemes xs)
    ≡ indent_facts (map token_of xs) (marked_lexemes xs) counted indentations

-- the facts of symbols followed by later symbols are those of the former and then those of the
-- latter
abbrev pub FactsGoOn : Type 0
FactsGoOn = (c : ContextValue) (tokens : List Token) (counted : ℕ) (indentations : List ℕ)
    (ws later : List Symbol) → facts_left c tokens counted indentations (ws ++ later)
    ≡ facts_left c tokens counted indentations ws
    ++ facts_left (behind_symbols tokens indentations c ws) tokens counted indentations later

-- the facts of symbols depend on `counted` only through which lexemes among the symbols count
abbrev pub CountedAsFarAsAsked : Type 0
CountedAsFarAsAsked = (c : ContextValue) (tokens : List Token) (counted other : ℕ)
    (indentations : List ℕ) (ws : List Symbol) →
    HaveIndices (λ i. nat_lt i counted ≡ nat_lt i other) ws →
    facts_left c tokens counted indentations ws ≡ facts_left c tokens other indentations ws

-- lexemes that do not count have no facts
abbrev pub NoneBehindTheCounted : Type 0
NoneBehindTheCounted = (c : ContextValue) (tokens : List Token) (counted : ℕ)
    (indentations : List ℕ) (ws : List Symbol) → HaveIndices (λ i. counted ≤ i) ws →
    facts_left c tokens counted indentations ws ≡ []
