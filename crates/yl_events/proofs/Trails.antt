-- A document's fault is found by what is kept of the symbols before it.
use Rattle.std.specs.Prelude.{ℕ, zero, suc, ◌≡◌, ◌<◌, ◌≤◌, ◌+◌, ◌-◌, refl, true, false, ◌==◌, if◌then◌else◌, List, [], ◌∷◌, ◌++◌, length, reverse, take, drop}
use Rattle.std.proofs.Common.{sym, ◌∙◌, ap, append_assoc, append-nil, get_or, add-one, arith}
use Rattle.std.proofs.lemmas.List.{reverse-append}
use Rattle.yl_lexeme.specs.declared.lexeme.Kind.{Kind}
use Rattle.yl_marks.specs.declared.symbol.Symbol.{Symbol}
use Rattle.yl_marks.specs.declared.symbol.Symbol.TheVariants.{Close, One}
use Rattle.yl_events.specs.declared.symbol.OpenBlockCollection.{OpenBlockCollection}
use Rattle.yl_events.specs.declared.symbol.OpenBlockCollection.TheVariants.{InSequence}
use Rattle.std.proofs.Math.Seq.{take-suc, drop-cons}
use Rattle.yl_events.specs.declared.fault.ParseFault.TheVariants.{DocumentStartExpected, PropertiesGivenTwice, CommaOrBracketExpected}
use Rattle.yl_events.specs.Derives.{lexeme_count}
use Rattle.yl_events.specs.Faults.{OpenCollections, open_behind, open_after, has_property, is_twice, is_behind_directive, without_closed, fault_in_blocks, fault_in, fault_between, fault_of, front_len}
use Rattle.yl_events.specs.Trail.{TrailValue, no_trail, trail_behind, trail_after, comes_twice, fault_behind, fault_from}

-- ---- the trail says what looking back finds

abbrev nothing_open : OpenCollections
nothing_open = record { depth = 0; blocks = [] }

-- the trail of the latest symbols, where these are open
abbrev trail_of : List Symbol → OpenCollections → TrailValue
trail_of latest o = record {
  at_directive = is_behind_directive latest;
  with_anchor = has_property true latest;
  with_tag = has_property false latest;
  open_ones = o;
}

one_more : (w : Symbol) (latest : List Symbol) (o : OpenCollections) → trail_behind (trail_of latest o) w ≡ trail_of (w ∷ latest) (open_behind o w)
one_more (One Kind.Directive i) latest o = refl
one_more (One Kind.Anchor i) latest o = refl
one_more (One Kind.Tag i) latest o = refl
one_more w latest o = refl

all_more : (ws latest : List Symbol) (o : OpenCollections) → trail_after (trail_of (reverse latest) o) ws ≡ trail_of (reverse (latest ++ ws)) (open_after o ws)
all_more [] latest o = ap (λ l. trail_of (reverse l) o) (sym (append-nil latest))
all_more (w ∷ ws) latest o =
    ap (λ t. trail_after t ws) (one_more w (reverse latest) o)
    ∙ ap (λ l. trail_after (trail_of l (open_behind o w)) ws) (sym (reverse-append latest (w ∷ [])))
    ∙ all_more ws (latest ++ w ∷ []) (open_behind o w)
    ∙ ap (λ l. trail_of (reverse l) (open_after o (w ∷ ws))) (append_assoc latest (w ∷ []) ws)

twice_by_trail : (latest : List Symbol) (o : OpenCollections) (behind : List Symbol) → comes_twice (trail_of latest o) behind ≡ is_twice latest behind
twice_by_trail latest o (One Kind.Anchor i ∷ ws) = refl
twice_by_trail latest o (One Kind.Tag i ∷ ws) = refl
twice_by_trail latest o (One Kind.Alias i ∷ ws) = refl
twice_by_trail latest o _ = refl

between : (before behind : List Symbol) → fault_behind (trail_after no_trail before) behind ≡ fault_between before behind
between before behind =
    ap (λ t. fault_behind t behind) (all_more before [] nothing_open)
    ∙ ap (λ b. if is_behind_directive (reverse before) then DocumentStartExpected else if b then PropertiesGivenTwice
    else fault_in (open_after nothing_open before) behind) (twice_by_trail (reverse before) (open_after nothing_open before) behind)

pub fault_by_trail : (ws : List Symbol) (place : ℕ) → fault_from no_trail place ws ≡ fault_of ws place
fault_by_trail ws place = between (take (front_len place ws) ws) (drop (front_len place ws) ws)

-- ---- what stands behind the next lexeme says nothing more

twice_there : (t : TrailValue) (us vs : List Symbol) → 0 < lexeme_count us → comes_twice t (us ++ vs) ≡ comes_twice t us
twice_there t [] vs h = absurd (omega arith)
twice_there t (One Kind.Anchor i ∷ us) vs h = refl
twice_there t (One Kind.Tag i ∷ us) vs h = refl
twice_there t (One Kind.Alias i ∷ us) vs h = refl
twice_there t (w ∷ us) vs h = refl

closed_there : (us vs : List Symbol) (blocks : List OpenBlockCollection) → 0 < lexeme_count us → without_closed (us ++ vs) blocks ≡ without_closed us blocks
closed_there [] vs blocks h = absurd (omega arith)
closed_there (Close ∷ us) vs blocks h = closed_there us vs (drop 1 blocks) h
closed_there (w ∷ us) vs blocks h = refl

pub fault_there : (t : TrailValue) (us vs : List Symbol) → 0 < lexeme_count us → fault_behind t (us ++ vs) ≡ fault_behind t us
fault_there t us vs h =
    ap (λ b. if t.at_directive then DocumentStartExpected else if b then PropertiesGivenTwice else fault_in t.open_ones (us ++ vs)) (twice_there t us vs h)
    ∙ ap (λ bs. if t.at_directive then DocumentStartExpected else if comes_twice t us then PropertiesGivenTwice
    else if t.open_ones.depth == 0 then fault_in_blocks bs else CommaOrBracketExpected) (closed_there us vs t.open_ones.blocks h)

pub trail_after-append : (t : TrailValue) (ws vs : List Symbol) → trail_after t (ws ++ vs) ≡ trail_after (trail_after t ws) vs
trail_after-append t [] vs = refl
trail_after-append t (w ∷ ws) vs = trail_after-append (trail_behind t w) ws vs

-- ---- the blocks stand with the innermost last

one_less : (blocks : List OpenBlockCollection) (n m : ℕ) → n ≤ length blocks → m ≡ n - 1 → reverse (take m blocks) ≡ drop 1 (reverse (take n blocks))
one_less blocks zero m h e = ap (λ k. reverse (take k blocks)) {x = m} {y = 0} (omega arith)
one_less blocks (suc n) m h e =
    let block = get_or blocks n InSequence in
    ap (λ k. reverse (take k blocks)) {x = m} {y = n} (omega arith)
    ∙ sym (ap (λ l. drop 1 (reverse l)) (take-suc blocks n InSequence (omega arith)) ∙ ap (drop 1) (reverse-append (take n blocks) (block ∷ [])))

next_close : (ws : List Symbol) (i : ℕ) (w : Symbol) → i < length ws → get_or ws i w ≡ Close → drop i ws ≡ Close ∷ drop (i + 1) ws
next_close ws i w h e = drop-cons ws i w h ∙ ap (λ x. x ∷ drop (suc i) ws) e ∙ ap (λ k. Close ∷ drop k ws) (sym (add-one i))

pub closed_step : (ws : List Symbol) (i : ℕ) (w : Symbol) (blocks all : List OpenBlockCollection) (n m : ℕ) → i < length ws → get_or ws i w ≡ Close →
    without_closed (drop i ws) (reverse (take n blocks)) ≡ all → n ≤ length blocks → m ≡ n - 1 → without_closed (drop (i + 1) ws) (reverse (take m blocks)) ≡ all
closed_step ws i w blocks all n m there close h within less =
    ap (without_closed (drop (i + 1) ws)) (one_less blocks n m within less)
    ∙ sym (ap (λ l. without_closed l (reverse (take n blocks))) (next_close ws i w there close)) ∙ h
