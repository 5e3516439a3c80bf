-- A walk over the events of a document, each judged by those before it and those behind it.
use Rattle.std.proofs.Common.{◌≡◌, ◌<◌, ◌≤◌, ℕ, suc, ◌+◌, length, List, [], ◌∷◌, ◌++◌, take, drop, get_or, sym, ◌∙◌, ap, add-one, append_assoc, map, None, false}
use Rattle.std.specs.Prelude.{reverse}
use Rattle.std.proofs.Math.Seq.{drop-cons, take-suc}
use Rattle.std.proofs.Math.ListN.{get_or-map}
use Rattle.std.proofs.lemmas.List.{reverse-append, length-map, drop_all}
use Rattle.yl_events.specs.declared.event.Event.{Event}
use Rattle.yl_events.specs.declared.event.EventKind.TheVariants.{DocumentStart}
use Rattle.yl_text.specs.Finding.{at_each}

-- what a list of events is read as past its end
abbrev pub no_event : Event
no_event = record {
  kind = DocumentStart;
  place = None;
  is_tagged = false;
  has_anchor = false;
  anchor_place = record { line = 0; col = 0 };
  anchor_name = record { ref_ptr = (0, 0); now = [] };
}

module _ {X Y : Type 0} (v : X → Y) (xs : List X) (i : ℕ) (d : X) (within : i < length xs) where
  inside : i < length (map v xs)
  inside = simp length-map within

  abbrev pub here : Y
  here = v (get_or xs i d)

  there : get_or (map v xs) i (v d) ≡ here
  there = get_or-map v xs i d

  -- what stands before the next place, the latest first
  pub before_more : reverse (take (i + 1) (map v xs)) ≡ here ∷ reverse (take i (map v xs))
  before_more =
      rw (add-one i, take-suc (map v xs) i (v d) inside) (reverse-append (take i (map v xs)) (get_or (map v xs) i (v d) ∷ []) ∙ ap (λ (y : Y). y ∷ reverse (take i (map v xs))) there)

  -- what begins at this place
  pub drop_here : drop i (map v xs) ≡ here ∷ drop (i + 1) (map v xs)
  drop_here = rw (add-one i, drop-cons (map v xs) i (v d) inside) (ap (λ (y : Y). y ∷ drop (suc i) (map v xs)) there)

  pub drop_before : (j : ℕ) → j ≡ i + 1 → drop i (map v xs) ≡ here ∷ drop j (map v xs)
  drop_before j e = drop_here ∙ ap (λ (n : ℕ). here ∷ drop n (map v xs)) (sym e)

  -- what is found from the next place on, by what was found at this one
  pub found_more : {Z : Type 0} (f : List Y → Y → List Y → List Z) (old new all : List Z)
      → new ≡ old ++ f (reverse (take i (map v xs))) here (drop (i + 1) (map v xs))
      → old ++ at_each f (reverse (take i (map v xs))) (drop i (map v xs)) ≡ all
      → new ++ at_each f (reverse (take (i + 1) (map v xs))) (drop (i + 1) (map v xs)) ≡ all
  found_more {Z} f old new all new_is all_is =
      let turn = rw drop_here at all_is in
      rw (new_is, append_assoc, before_more) turn

-- at the end nothing is left
pub none_left : {X Y : Type 0} (v : X → Y) (xs : List X) (i : ℕ) → length xs ≤ i → drop i (map v xs) ≡ []
none_left v xs i past =
    let beyond : length (map v xs) ≤ i = simp length-map past in
    drop_all i (map v xs) beyond
