-- Rows are told alike wherever the same is held before them.
use Rattle.std.proofs.Common.{◌≡◌, ◌+◌, refl, sym, ◌∙◌, ap, subst, ℕ, List, [], ◌∷◌, ◌++◌, length, map, option_map}
use Rattle.std.proofs.lemmas.List.{map-append}
use Rattle.yl_marks.specs.declared.token.Token.{Token}
use Rattle.yl_marks.specs.declared.symbol.Symbol.{Symbol}
use Rattle.yl_indentation.specs.declared.fact.Fact.{Fact}
use Rattle.yl_indentation.specs.Context.{ContextValue}
use Rattle.yl_indentation.specs.SymbolFacts.{element_of_symbol, facts_if, after_if, behind_symbol}
use Rattle.yl_indentation.proofs.BySymbols.{after_counted}
use Rattle.yl_marks.specs.MarksAlike.{symbol_after}
use Rattle.yl_indentation.specs.FactsAlike.{fact_below, context_state, with_earlier, facts_of_rows, after_rows, FactsAreAlike}
use Rattle.yl_indentation.proofs.FactsAlikeMoved.{element_below, symbol_moved}
use Rattle.yl_indentation.proofs.FactsAlikeElements.{AreAlike, alike_above, facts_alike, alike_after_if}

-- ---- one symbol, in one place

module _ (earlier : List Token) (above : List ℕ) (tokens : List Token) (lines : List ℕ) (counted : ℕ) where
  abbrev facts_here : ContextValue → Symbol → List Fact
  facts_here c w = facts_if c (element_of_symbol (with_earlier earlier above tokens) (length earlier + counted) (above ++ lines) (symbol_after (length earlier) w))

  abbrev after_here : ContextValue → Symbol → ContextValue
  after_here c w = behind_symbol (with_earlier earlier above tokens) (above ++ lines) c (symbol_after (length earlier) w)

  after_here_is : (c : ContextValue) (w : Symbol) → after_here c w ≡ after_if (option_map (element_below (length above)) (element_of_symbol tokens counted lines w)) c
  after_here_is c w =
      sym (after_counted (with_earlier earlier above tokens) (above ++ lines) (length earlier + counted) (symbol_after (length earlier) w) c)
      ∙ ap (λ o. after_if o c) (symbol_moved earlier above tokens lines counted w)

-- ---- in two places

module _ (earlier_a earlier_b tokens : List Token) (above_a above_b lines : List ℕ) (counted : ℕ) where
  abbrev Alike : ContextValue → ContextValue → Type 0
  Alike a b = AreAlike (length above_a) (length above_b) a b

  same_here : (a b : ContextValue) (w : Symbol) → Alike a b →
      map (fact_below (length above_b)) (facts_here earlier_a above_a tokens lines counted a w) ≡ map (fact_below (length above_a)) (facts_here earlier_b above_b tokens lines counted b w)
  same_here a b w h =
      ap (λ o. map (fact_below (length above_b)) (facts_if a o)) (symbol_moved earlier_a above_a tokens lines counted w)
      ∙ facts_alike (length above_a) (length above_b) a b h (element_of_symbol tokens counted lines w)
      ∙ sym (ap (λ o. map (fact_below (length above_a)) (facts_if b o)) (symbol_moved earlier_b above_b tokens lines counted w))

  alike_next : (a b : ContextValue) (w : Symbol) → Alike a b → Alike (after_here earlier_a above_a tokens lines counted a w) (after_here earlier_b above_b tokens lines counted b w)
  alike_next a b w h =
      let o = element_of_symbol tokens counted lines w in
      subst (λ c. Alike c (after_here earlier_b above_b tokens lines counted b w)) (sym (after_here_is earlier_a above_a tokens lines counted a w))
      (subst (λ c. Alike (after_if (option_map (element_below (length above_a)) o) a) c) (sym (after_here_is earlier_b above_b tokens lines counted b w))
      (alike_after_if (length above_a) (length above_b) a b h o))

  all_facts : (a b : ContextValue) (ws : List Symbol) → Alike a b →
      map (fact_below (length above_b)) (facts_of_rows a earlier_a above_a tokens counted lines ws) ≡ map (fact_below (length above_a)) (facts_of_rows b earlier_b above_b tokens counted lines ws)
  all_facts a b [] h = refl
  all_facts a b (w ∷ ws) h =
      let at_a = facts_here earlier_a above_a tokens lines counted a w in
      let at_b = facts_here earlier_b above_b tokens lines counted b w in
      let a' = after_here earlier_a above_a tokens lines counted a w in
      let b' = after_here earlier_b above_b tokens lines counted b w in
      let later_a = facts_of_rows a' earlier_a above_a tokens counted lines ws in
      let later_b = facts_of_rows b' earlier_b above_b tokens counted lines ws in
      map-append (fact_below (length above_b)) at_a later_a
      ∙ ap (λ fs. fs ++ map (fact_below (length above_b)) later_a) (same_here a b w h)
      ∙ ap (λ fs. map (fact_below (length above_a)) at_b ++ fs) (all_facts a' b' ws (alike_next a b w h))
      ∙ sym (map-append (fact_below (length above_a)) at_b later_b)

  all_after : (a b : ContextValue) (ws : List Symbol) → Alike a b →
      context_state (after_rows a earlier_a above_a tokens lines ws) ≡ context_state (after_rows b earlier_b above_b tokens lines ws)
  all_after a b [] h = h.state
  all_after a b (w ∷ ws) h = all_after (after_here earlier_a above_a tokens lines counted a w) (after_here earlier_b above_b tokens lines counted b w) ws (alike_next a b w h)

pub facts_are_alike : FactsAreAlike
facts_are_alike a b earlier_a earlier_b tokens above_a above_b lines counted ws same is_above_a is_above_b =
    let h = alike_above (length above_a) (length above_b) a b same is_above_a is_above_b in
    record {
      facts = all_facts earlier_a earlier_b tokens above_a above_b lines counted a b ws h;
      after = all_after earlier_a earlier_b tokens above_a above_b lines counted a b ws h;
    }
