-- The outlines that the parser tells of the symbols of a row have no place above the row.
use Rattle.std.proofs.Common.{◌≡◌, ◌≤◌, ℕ, suc, Bool, true, false, cond, List, [], ◌∷◌, map, Option, Some, None, refl, sym, ◌∙◌, ap, arith}
use Rattle.std.specs.Prelude.{IfSome, nat_lt, option_map}
use Rattle.std.specs.List.{AllByRecursion}
use Rattle.std.proofs.lemmas.Bool.{le-ltb, ltb-false}
use Rattle.yl_lexeme.specs.declared.lexeme.Kind.{Kind}
use Rattle.yl_marks.specs.declared.symbol.Symbol.{Symbol}
use Rattle.yl_marks.specs.declared.symbol.Symbol.TheVariants.{OpenSequence, OpenMapping, BeginKey, Close, One}
use Rattle.yl_events.specs.declared.symbol.Goal.{Goal}
use Rattle.yl_events.specs.declared.symbol.Outline.{Outline}
use Rattle.yl_events.specs.DocumentOutcome.{steps}
use Rattle.yl_events.specs.Named.{SymbolNames, SymbolsName}
use Rattle.yl_events.specs.State.{goal_state}
use Rattle.yl_events.proofs.ParsedAlikeSteps.{bare_events, bare_index, bare_outline, bare_symbol, steps_bare}
use Rattle.yl_pieces.specs.Events.{outlines_told}
use Rattle.yl_pieces.proofs.EventsNamed.{told_bare}

-- the outline has no place, or one from this lexeme on
abbrev pub IsFrom : ℕ → Outline → Type 0
IsFrom n o = IfSome o.place (λ i. n ≤ i)

abbrev same : ℕ → ℕ
same i = i

module _ (n : ℕ) where
  -- where only the lexemes above the row are counted one later, nothing changes

  abbrev moved : ℕ → ℕ
  moved i = cond (nat_lt i n) (suc i) i

  stays : (i : ℕ) → n ≤ i → moved i ≡ i
  stays i h = ap (λ (b : Bool). cond b (suc i) i) (le-ltb i n h)

  below : (i : ℕ) → moved i ≡ i → n ≤ i
  below i e = by_test (nat_lt i n) refl e
    where
      by_test : (b : Bool) → nat_lt i n ≡ b → cond b (suc i) i ≡ i → n ≤ i
      by_test true e h = let later : suc i ≡ i = h in absurd (omega (arith, later))
      by_test false e h = ltb-false i n e

  index_stays : (kind : Kind) (i : ℕ) → n ≤ i → bare_index moved kind i ≡ bare_index same kind i
  index_stays Kind.Anchor i h = refl
  index_stays Kind.Tag i h = refl
  index_stays kind i h = stays i h

  symbol_stays : (w : Symbol) → SymbolNames (λ i. n ≤ i) w → bare_symbol moved w ≡ bare_symbol same w
  symbol_stays (OpenSequence i) h = ap OpenSequence (stays i h)
  symbol_stays (OpenMapping i) h = ap OpenMapping (stays i h)
  symbol_stays (BeginKey i) h = ap BeginKey (stays i h)
  symbol_stays Close h = refl
  symbol_stays (One kind i) h = ap (One kind) (index_stays kind i h)

  symbols_stay : (ws : List Symbol) → SymbolsName (λ i. n ≤ i) ws → map (bare_symbol moved) ws ≡ map (bare_symbol same) ws
  symbols_stay [] h = refl
  symbols_stay (w ∷ ws) h =
      ap (λ (v : Symbol). v ∷ map (bare_symbol moved) ws) (symbol_stays w h.0) ∙ ap (λ (vs : List Symbol). bare_symbol same w ∷ vs) (symbols_stay ws h.1)

  -- ---- so places are those of other lexemes

  place_from : (place : Option ℕ) → option_map moved place ≡ option_map same place → IfSome place (λ i. n ≤ i)
  place_from None e = tt
  place_from (Some i) e = let there : Some (moved i) ≡ Some i = e in below i cc

  outlines_from : (os : List Outline) → bare_events moved os ≡ bare_events same os → AllByRecursion (IsFrom n) os
  outlines_from [] e = tt
  outlines_from (o ∷ os) e =
      let both : bare_outline moved o ∷ bare_events moved os ≡ bare_outline same o ∷ bare_events same os = e in
      let here : bare_outline moved o ≡ bare_outline same o = cc in
      let later : bare_events moved os ≡ bare_events same os = cc in
      (place_from o.place (ap (λ (p : Outline). p.place) here), outlines_from os later)

  pub told_from : (ws : List Symbol) (goals : List Goal) → SymbolsName (λ i. n ≤ i) ws → AllByRecursion (IsFrom n) (outlines_told (steps ws goals []))
  told_from ws goals h =
      outlines_from (outlines_told (steps ws goals []))
      (sym (told_bare moved (steps ws goals []))
      ∙ sym (ap outlines_told (steps_bare moved ws goals []))
      ∙ ap (λ (vs : List Symbol). outlines_told (steps vs (map goal_state goals) [])) (symbols_stay ws h)
      ∙ ap outlines_told (steps_bare same ws goals [])
      ∙ told_bare same (steps ws goals []))
