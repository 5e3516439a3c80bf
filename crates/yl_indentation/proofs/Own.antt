-- The facts of lexemes of a text's first lines stand in these lines.
use Rattle.std.proofs.Common.{◌<◌, ℕ, ◌+◌, List, [], ◌∷◌, map, Option, Some, None}
use Rattle.std.specs.Prelude.{⊤, IfSome, slice_get, slice_index, nat_lt, option_map, option_to_list}
use Rattle.std.specs.List.{AllByRecursion}
use Rattle.std.specs.Option.{option_map_or}
use Rattle.yl_text.proofs.Every.{all_both, all_got, all_if}
use Rattle.yl_lexeme.specs.declared.lexeme.Kind.{Kind}
use Rattle.yl_lexeme.specs.declared.lexeme.Kind.TheVariants.{Directive, DocStart, DocEnd, Entry, Key, Value, Comma, SeqOpen, SeqClose, MapOpen, MapClose, Alias, Anchor, Tag, Scalar}
use Rattle.yl_marks.specs.declared.token.Token.{Token}
use Rattle.yl_marks.specs.declared.symbol.Marked.{Marked}
use Rattle.yl_marks.specs.declared.symbol.Marked.TheVariants.{Open, Close, Lexeme}
use Rattle.yl_indentation.specs.declared.element.Site.{Site}
use Rattle.yl_indentation.specs.declared.element.Element.{Element}
use Rattle.yl_indentation.specs.declared.element.Element.TheVariants.{Opening, Closing, Marker, OpeningBracket, ClosingBracket, Other, Nothing}
use Rattle.yl_indentation.specs.declared.fact.Expectation.{Expectation}
use Rattle.yl_indentation.specs.declared.fact.Fact.{Fact}
use Rattle.yl_indentation.specs.Elements.{element_at, element_of, lexeme_element}
use Rattle.yl_indentation.specs.declared.context.OpenCollection.{OpenCollection}
use Rattle.yl_indentation.specs.Expected.{expectation_in}
use Rattle.yl_indentation.specs.Facts.{fact_at, facts_after, indent_facts, latest_lexeme, open_around, site_of}

module _ (rows : ℕ) where
  -- its lexeme, if it is one, begins in these lines
  abbrev Begins : Element → Type 0
  Begins (Opening collection column) = ⊤
  Begins Closing = ⊤
  Begins (Marker site) = site.token.start.line < rows
  Begins (OpeningBracket site) = site.token.start.line < rows
  Begins (ClosingBracket site) = site.token.start.line < rows
  Begins (Other site) = site.token.start.line < rows
  Begins Nothing = ⊤

  abbrev Within : Fact → Type 0
  Within f = f.line < rows

  begins_at : (kind : Kind) (site : Site) → site.token.start.line < rows → Begins (element_at kind site)
  begins_at Directive site h = h
  begins_at DocStart site h = h
  begins_at DocEnd site h = h
  begins_at Entry site h = h
  begins_at Key site h = h
  begins_at Value site h = h
  begins_at Comma site h = h
  begins_at SeqOpen site h = h
  begins_at SeqClose site h = h
  begins_at MapOpen site h = h
  begins_at MapClose site h = h
  begins_at Alias site h = h
  begins_at Anchor site h = h
  begins_at Tag site h = h
  begins_at (Scalar style) site h = h

  lexeme_begins : (tokens : List Token) (counted : ℕ) (indentations : List ℕ) (i : ℕ) (x : Option Token)
      → IfSome x (λ t. t.start.line < rows) → Begins (lexeme_element tokens counted indentations i x)
  lexeme_begins tokens counted indentations i None h = tt
  lexeme_begins tokens counted indentations i (Some x) h =
      begins_at x.kind (record { token = x; next = slice_get tokens (i + 1); indentation = slice_index indentations x.start.line; counts = nat_lt i counted }) h

  element_begins : (tokens : List Token) (counted : ℕ) (indentations : List ℕ) (m : Marked)
      → AllByRecursion (λ t. t.start.line < rows) tokens → Begins (element_of tokens counted indentations m)
  element_begins tokens counted indentations (Open collection column) h = tt
  element_begins tokens counted indentations Close h = tt
  element_begins tokens counted indentations (Lexeme i begins) h =
      lexeme_begins tokens counted indentations i (slice_get tokens i) (all_got (λ (t : Token). t.start.line < rows) tokens i h)

  elements_begin : (tokens : List Token) (counted : ℕ) (indentations : List ℕ) (ms : List Marked)
      → AllByRecursion (λ t. t.start.line < rows) tokens → AllByRecursion Begins (map (element_of tokens counted indentations) ms)
  elements_begin tokens counted indentations [] h = tt
  elements_begin tokens counted indentations (m ∷ ms) h = (element_begins tokens counted indentations m h, elements_begin tokens counted indentations ms h)

  own_fact : (x : Token) (e : Option Expectation) → x.start.line < rows
      → AllByRecursion Within (option_to_list (option_map (λ o. record { line = x.start.line; column = x.start.col; expectation = o }) e))
  own_fact x None h = tt
  own_fact x (Some e) h = (h, tt)

  own_site : (os : List OpenCollection) (latest : Option Token) (site : Site) → site.token.start.line < rows → AllByRecursion Within (fact_at os latest site)
  own_site os latest site h = all_if Within _ _ (own_fact site.token (expectation_in os latest site.token) h)

  own_at : (os : List OpenCollection) (latest : Option Token) (e : Element) → Begins e → AllByRecursion Within (option_map_or (fact_at os latest) (site_of e) [])
  own_at os latest (Opening collection column) h = tt
  own_at os latest Closing h = tt
  own_at os latest (Marker site) h = own_site os latest site h
  own_at os latest (OpeningBracket site) h = own_site os latest site h
  own_at os latest (ClosingBracket site) h = own_site os latest site h
  own_at os latest (Other site) h = own_site os latest site h
  own_at os latest Nothing h = tt

  own_after : (before es : List Element) → AllByRecursion Begins es → AllByRecursion Within (facts_after before es)
  own_after before [] h = tt
  own_after before (e ∷ es) h = all_both Within _ _ (own_at (open_around before) (latest_lexeme before) e h.0) (own_after (e ∷ before) es h.1)

  pub own_facts : (tokens : List Token) (marks : List Marked) (counted : ℕ) (indentations : List ℕ)
      → AllByRecursion (λ t. t.start.line < rows) tokens → AllByRecursion (λ f. f.line < rows) (indent_facts tokens marks counted indentations)
  own_facts tokens marks counted indentations h = own_after [] _ (elements_begin tokens counted indentations marks h)
