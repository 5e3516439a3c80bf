-- Which fault a document has, and the trail of its symbols, depend on no index of a lexeme.
use Rattle.std.specs.Prelude.{ℕ, ◌≡◌, ◌+◌, ◌==◌, refl, if◌then◌else◌, List, [], ◌∷◌, map, take, drop}
use Rattle.std.proofs.Common.{◌∙◌, ap}
use Rattle.std.proofs.lemmas.List.{take-map, drop-map}
use Rattle.yl_lexeme.specs.declared.lexeme.Kind.{Kind}
use Rattle.yl_marks.specs.declared.symbol.Symbol.{Symbol}
use Rattle.yl_marks.specs.declared.symbol.Symbol.TheVariants.{Close, One}
use Rattle.yl_events.specs.declared.symbol.OpenBlockCollection.{OpenBlockCollection}
use Rattle.yl_events.specs.declared.fault.ParseFault.TheVariants.{DocumentStartExpected, PropertiesGivenTwice, CommaOrBracketExpected}
use Rattle.yl_events.specs.Faults.{without_closed, fault_in_blocks, fault_in, left_behind, front_len}
use Rattle.yl_events.specs.Trail.{TrailValue, trail_behind, trail_after, comes_twice, fault_behind, fault_from}
use Rattle.yl_events.proofs.ParsedAlikeSteps.{bare_symbol}

module _ (moved : ℕ → ℕ) where
  abbrev bare : List Symbol → List Symbol
  bare ws = map (bare_symbol moved) ws

  trail_more : (t : TrailValue) (w : Symbol) → trail_behind t (bare_symbol moved w) ≡ trail_behind t w
  trail_more t (One Kind.Directive i) = refl
  trail_more t (One Kind.Anchor i) = refl
  trail_more t (One Kind.Tag i) = refl
  trail_more t w = refl

  pub trail_bare : (t : TrailValue) (ws : List Symbol) → trail_after t (bare ws) ≡ trail_after t ws
  trail_bare t [] = refl
  trail_bare t (w ∷ ws) = ap (λ u. trail_after u (bare ws)) (trail_more t w) ∙ trail_bare (trail_behind t w) ws

  twice_bare : (t : TrailValue) (ws : List Symbol) → comes_twice t (bare ws) ≡ comes_twice t ws
  twice_bare t (One Kind.Anchor i ∷ ws) = refl
  twice_bare t (One Kind.Tag i ∷ ws) = refl
  twice_bare t (One Kind.Alias i ∷ ws) = refl
  twice_bare t _ = refl

  closed_bare : (ws : List Symbol) (blocks : List OpenBlockCollection) → without_closed (bare ws) blocks ≡ without_closed ws blocks
  closed_bare (Close ∷ ws) blocks = closed_bare ws (drop 1 blocks)
  closed_bare _ blocks = refl

  there_bare : (t : TrailValue) (ws : List Symbol) → fault_behind t (bare ws) ≡ fault_behind t ws
  there_bare t ws =
      ap (λ b. if t.at_directive then DocumentStartExpected else if b then PropertiesGivenTwice else fault_in t.open_ones (bare ws)) (twice_bare t ws)
      ∙ ap (λ bs. if t.at_directive then DocumentStartExpected else if comes_twice t ws then PropertiesGivenTwice
      else if t.open_ones.depth == 0 then fault_in_blocks bs else CommaOrBracketExpected) (closed_bare ws t.open_ones.blocks)

  left_bare : (w : Symbol) (left : ℕ) → left_behind (bare_symbol moved w) left ≡ left_behind w left
  left_bare (One kind i) left = refl
  left_bare w left = refl

  front_bare : (left : ℕ) (ws : List Symbol) → front_len left (bare ws) ≡ front_len left ws
  front_bare left [] = refl
  front_bare left (w ∷ ws) =
      ap (λ k. if left == 0 then 0 else front_len k (bare ws) + 1) (left_bare w left)
      ∙ ap (λ k. if left == 0 then 0 else k + 1) (front_bare (left_behind w left) ws)

  pub fault_bare : (t : TrailValue) (place : ℕ) (ws : List Symbol) → fault_from t place (bare ws) ≡ fault_from t place ws
  fault_bare t place ws =
      let n = front_len place ws in
      ap (λ k. fault_behind (trail_after t (take k (bare ws))) (drop k (bare ws))) (front_bare place ws)
      ∙ ap (λ us. fault_behind (trail_after t us) (drop n (bare ws))) (take-map (bare_symbol moved) n ws)
      ∙ ap (λ u. fault_behind u (drop n (bare ws))) (trail_bare t (take n ws))
      ∙ ap (fault_behind (trail_after t (take n ws))) (drop-map (bare_symbol moved) n ws)
      ∙ there_bare (trail_after t (take n ws)) (drop n ws)
