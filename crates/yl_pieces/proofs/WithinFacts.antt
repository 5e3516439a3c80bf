-- The facts of the rule indentation stand in the lines of lexemes.
use Rattle.std.proofs.Common.{ℕ, ◌+◌, List, [], ◌∷◌, Option, Some, None}
use Rattle.std.specs.Prelude.{IfSome, nat_lt, option_map, option_to_list, slice_get, slice_index}
use Rattle.std.specs.List.{AllByRecursion}
use Rattle.yl_text.proofs.Every.{all_both, all_got, all_if}
use Rattle.yl_lexeme.specs.declared.lexeme.Kind.{Kind}
use Rattle.yl_lexeme.specs.declared.lexeme.Kind.TheVariants.{DocStart, DocEnd, SeqOpen, SeqClose, MapOpen, MapClose}
use Rattle.yl_marks.specs.declared.token.Token.{Token}
use Rattle.yl_marks.specs.declared.symbol.Symbol.{Symbol}
use Rattle.yl_marks.specs.declared.symbol.Symbol.TheVariants.{OpenSequence, OpenMapping, BeginKey, Close, One}
use Rattle.yl_indentation.specs.declared.element.Site.{Site}
use Rattle.yl_indentation.specs.declared.fact.Expectation.{Expectation}
use Rattle.yl_indentation.specs.declared.fact.Fact.{Fact}
use Rattle.yl_indentation.specs.Context.{ContextValue, around, fact_here, fact_in}
use Rattle.yl_indentation.specs.Elements.{element_at, lexeme_element}
use Rattle.yl_indentation.specs.Expected.{expectation_in}
use Rattle.yl_indentation.specs.SlimElements.{slim_element, slim_site}
use Rattle.yl_indentation.specs.SymbolFacts.{behind_symbol, facts_left}

-- something holds of the lines of lexemes
module _ (Is : ℕ → Type 0) where
  abbrev Every : List Fact → Type 0
  Every fs = AllByRecursion (λ (f : Fact). Is f.line) fs

  abbrev fact_of : Token → Expectation → Fact
  fact_of x e = record { line = x.start.line; column = x.start.col; expectation = e }

  of_lexeme : (x : Token) (e : Option Expectation) → Is x.start.line → Every (option_to_list (option_map (fact_of x) e))
  of_lexeme x None h = tt
  of_lexeme x (Some e) h = (h, tt)

  of_site : (c : ContextValue) (site : Site) → Is site.token.start.line → Every (fact_here c site)
  of_site c site h =
      all_if (λ (f : Fact). Is f.line) _ _ (of_lexeme site.token (expectation_in (option_to_list (around c.just_opened c.open_ones)) c.latest site.token) h)

  of_kind : (kind : Kind) (c : ContextValue) (site : Site) → Is site.token.start.line → Every (fact_in c (slim_element (element_at kind site)))
  of_kind DocStart c site h = of_site c (slim_site site) h
  of_kind DocEnd c site h = of_site c (slim_site site) h
  of_kind SeqOpen c site h = of_site c site h
  of_kind MapOpen c site h = of_site c site h
  of_kind SeqClose c site h = of_site c (slim_site site) h
  of_kind MapClose c site h = of_site c (slim_site site) h
  of_kind _ c site h = of_site c (slim_site site) h

  of_element : (tokens : List Token) (counted : ℕ) (ns : List ℕ) (i : ℕ) (c : ContextValue) (o : Option Token)
      → IfSome o (λ (x : Token). Is x.start.line) → Every (fact_in c (slim_element (lexeme_element tokens counted ns i o)))
  of_element tokens counted ns i c None h = tt
  of_element tokens counted ns i c (Some x) h =
      of_kind x.kind c (record { token = x; next = slice_get tokens (i + 1); indentation = slice_index ns x.start.line; counts = nat_lt i counted }) h

  pub facts_lines : (c : ContextValue) (tokens : List Token) (counted : ℕ) (ns : List ℕ) (ws : List Symbol) → AllByRecursion (λ (x : Token). Is x.start.line) tokens
      → AllByRecursion (λ (f : Fact). Is f.line) (facts_left c tokens counted ns ws)
  facts_lines c tokens counted ns [] h = tt
  facts_lines c tokens counted ns (OpenSequence i ∷ ws) h = facts_lines (behind_symbol tokens ns c (OpenSequence i)) tokens counted ns ws h
  facts_lines c tokens counted ns (OpenMapping i ∷ ws) h = facts_lines (behind_symbol tokens ns c (OpenMapping i)) tokens counted ns ws h
  facts_lines c tokens counted ns (BeginKey i ∷ ws) h = facts_lines c tokens counted ns ws h
  facts_lines c tokens counted ns (Close ∷ ws) h = facts_lines (behind_symbol tokens ns c Close) tokens counted ns ws h
  facts_lines c tokens counted ns (One kind i ∷ ws) h =
      all_both (λ (f : Fact). Is f.line) _ _
      (of_element tokens counted ns i c (slice_get tokens i) (all_got (λ (x : Token). Is x.start.line) tokens i h))
      (facts_lines (behind_symbol tokens ns c (One kind i)) tokens counted ns ws h)
