-- What is seen of the lexemes of a line and of the anchor that waits is what the document has.
use Rattle.std.specs.Prelude.{ℕ, ◌≡◌, ◌<◌, ◌≤◌, ◌+◌, ◌-◌, ◌==◌, nat_lt, refl, Bool, true, false, if◌then◌else◌, List, [], ◌∷◌, length, map, Option, Some, None, IfSome, option_map, slice_get}
use Rattle.std.specs.Option.{option_map_or}
use Rattle.std.proofs.Common.{sym, ◌∙◌, ap, arith, inl, inr}
use Rattle.std.proofs.lemmas.Bool.{eqb-true}
use Rattle.std.proofs.lemmas.Bool.Decides.{nat_tests}
use Rattle.yl_text.specs.declared.position.Pos.{Pos}
use Rattle.yl_lexeme.specs.Lexeme.{LexemeValue}
use Rattle.yl_events.specs.declared.symbol.Outline.{Outline}
use Rattle.yl_events.specs.declared.symbol.Shape.{Shape}
use Rattle.yl_events.specs.declared.symbol.Shape.TheVariants as shape
use Rattle.yl_events.specs.Event.{EventValue, EventKindValue, EventAnchorValue, AliasOf, ScalarOf, anchor_of, event_of_outline, kind_of, content_value, start_at, start_of, value_at, value_of}
use Rattle.yl_events.specs.Seen.{HasLine, IsAnchorOf, LineValue, WaitingAnchorValue, anchor_seen, content_seen, event_seen, kind_seen, start_seen, value_seen, waits_at}
use Rattle.yl_events.specs.Named.{IsInLine, IsNamed, OutlineNames, OutlinesName}

abbrev index_of : Option WaitingAnchorValue → Option ℕ
index_of waiting = option_map (λ w. w.index) waiting

module _ (xs line : List LexemeValue) (first : ℕ) (has : HasLine xs first line) where
  abbrev there : ℕ → Option LexemeValue
  there i = if nat_lt i first then None else slice_get line (i - first)

  in_line : (i : ℕ) → IsInLine first (length line) i → there i ≡ slice_get xs i
  in_line i h =
      let low : first ≤ i = h.0 in
      let high : i < first + length line = h.1 in
      let not_before : nat_lt i first ≡ false = grind (arith, nat_tests, low) in
      let back : first + (i - first) ≡ i = omega (arith, low) in
      ap (λ (b : Bool). if b then None else slice_get line (i - first)) not_before
      ∙ (sym (has (i - first) (omega (arith, low, high))) ∙ ap (λ j. slice_get xs j) back)

  module _ {B : Type 0} (f : Option LexemeValue → B) (g : WaitingAnchorValue → B) (i : ℕ) where
    of_other : (w : WaitingAnchorValue) (b : Bool) → (w.index == i) ≡ b → g w ≡ f (slice_get xs w.index) → IsNamed first (length line) (Some w.index) i
        → option_map_or g (if b then Some w else None) (f (there i)) ≡ f (slice_get xs i)
    of_other w true is same h = let at : w.index ≡ i = eqb-true w.index i is in same ∙ ap (λ j. f (slice_get xs j)) at
    of_other w false is same (inl h) = ap f (in_line i h)
    of_other w false is same (inr h) =
        let at : w.index ≡ i = cc in
        let yes : (w.index == i) ≡ true = grind (arith, nat_tests, at) in
        cc

    seen : (waiting : Option WaitingAnchorValue) → IfSome waiting (λ w. g w ≡ f (slice_get xs w.index)) → IsNamed first (length line) (index_of waiting) i
        → option_map_or g (waits_at i waiting) (f (there i)) ≡ f (slice_get xs i)
    seen None same (inl h) = ap f (in_line i h)
    seen None same (inr h) = cc
    seen (Some w) same h = of_other w (w.index == i) refl same h

module _ (xs : List LexemeValue) (l : LineValue) (has : HasLine xs l.first l.lexemes) (waits : IsAnchorOf xs l.waiting) where
  abbrev pub Named : ℕ → Type 0
  Named i = IsNamed l.first (length l.lexemes) (index_of l.waiting) i

  names : (w : Option WaitingAnchorValue) → IsAnchorOf xs w → IfSome w (λ v. v.name ≡ value_of (slice_get xs v.index))
  names None h = tt
  names (Some w) h = sym h.0

  places : (w : Option WaitingAnchorValue) → IsAnchorOf xs w → IfSome w (λ v. v.place ≡ start_of (slice_get xs v.index))
  places None h = tt
  places (Some w) h = sym h.1

  pub value_is : (i : ℕ) → Named i → value_seen l i ≡ value_at xs i
  value_is i h = seen xs l.lexemes l.first has value_of (λ w. w.name) i l.waiting (names l.waiting waits) h

  pub start_is : (i : ℕ) → Named i → start_seen l i ≡ start_at xs i
  start_is i h = seen xs l.lexemes l.first has start_of (λ w. w.place) i l.waiting (places l.waiting waits) h

  content_is : (place : Option ℕ) → IfSome place Named → content_seen l place ≡ content_value xs place
  content_is None h = refl
  content_is (Some i) h = value_is i h

  kind_is : (s : Shape) (place : Option ℕ) → IfSome place Named → kind_seen l s place ≡ kind_of xs s place
  kind_is shape.Alias place h = ap AliasOf (content_is place h)
  kind_is (shape.Scalar style) place h = ap (λ v. ScalarOf style v) (content_is place h)
  kind_is shape.DocumentStart place h = refl
  kind_is shape.DocumentEnd place h = refl
  kind_is shape.SequenceStart place h = refl
  kind_is shape.SequenceEnd place h = refl
  kind_is shape.MappingStart place h = refl
  kind_is shape.MappingEnd place h = refl
  kind_is shape.Empty place h = refl

  place_is : (place : Option ℕ) → IfSome place Named → option_map (start_seen l) place ≡ option_map (start_at xs) place
  place_is None h = refl
  place_is (Some i) h = ap Some (start_is i h)

  anchor_is : (place : Option ℕ) → IfSome place Named → anchor_seen l place ≡ anchor_of xs place
  anchor_is None h = refl
  anchor_is (Some i) h = anchored (value_seen l i) (value_at xs i) (start_seen l i) (start_at xs i) (value_is i h) (start_is i h)
    where
      anchored : (m n : List ℕ) (p q : Pos) → m ≡ n → p ≡ q
          → (let a : EventAnchorValue = record { name = m; place = p } in let b : EventAnchorValue = record { name = n; place = q } in Some a ≡ Some b)
      anchored m n p q e h = rw (e, h)

  pub event_is : (o : Outline) → OutlineNames Named o → event_seen l o ≡ event_of_outline xs o
  event_is o h = same _ _ _ _ _ _ o.is_tagged (kind_is o.kind o.place h.0) (place_is o.place h.0) (anchor_is o.anchor h.1)
    where
      same : (k k' : EventKindValue) (p p' : Option Pos) (a a' : Option EventAnchorValue) (t : Bool) → k ≡ k' → p ≡ p' → a ≡ a'
          → (let e : EventValue = record { kind = k; place = p; anchor = a; is_tagged = t } in let f : EventValue = record { kind = k'; place = p'; anchor = a'; is_tagged = t } in e ≡ f)
      same k k' p p' a a' t x y z = rw (x, y, z)

  pub events_are : (os : List Outline) → OutlinesName Named os → map (event_seen l) os ≡ map (event_of_outline xs) os
  events_are [] h = refl
  events_are (o ∷ os) h = consed (event_is o h.0) (events_are os h.1)
    where
      consed : {e f : EventValue} {es fs : List EventValue} → e ≡ f → es ≡ fs → e ∷ es ≡ f ∷ fs
      consed x y = rw (x, y)
