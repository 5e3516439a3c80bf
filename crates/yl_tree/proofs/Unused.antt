-- Flags of unused anchors, from the last event to the first.
use Rattle.std.proofs.Common.{◌≡◌, ℕ, List, [], ◌∷◌, ◌++◌, length, reverse, refl, sym, ◌∙◌, ap, Bool, false, not, ◌&&◌, ◌||◌, Option, Some, None}
use Rattle.std.specs.Prelude.{unwrap_or}
use Rattle.std.specs.Option.{option_to_list}
use Rattle.std.proofs.lemmas.List.{reverse-append, reverse-reverse}
use Rattle.yl_events.specs.Event.{EventValue}
use Rattle.yl_tree.specs.Anchors.{is_anchor_of, is_alias_of, is_declared, is_used}
use Rattle.yl_tree.specs.Unused.{is_unused, unused_flags}

-- one event more in front
pub flag_more : (e : EventValue) (xs es : List EventValue) (flag : Bool) (old new : List Bool) → xs ≡ e ∷ es → flag ≡ is_unused e.anchor es → old ≡ reverse (unused_flags es) → new ≡ old ++ flag ∷ [] → new ≡ reverse (unused_flags xs)
flag_more e xs es flag old new e_is f_is old_is new_is =
    rw (new_is, old_is, f_is, e_is) (sym (reverse-append (is_unused e.anchor es ∷ []) (unused_flags es)))

pub flags_here : (e : EventValue) (xs es : List EventValue) (flags : List Bool) → xs ≡ e ∷ es → flags ≡ reverse (unused_flags xs) → flags ≡ reverse (is_unused e.anchor es ∷ unused_flags es)
flags_here e xs es flags is h = h ∙ ap (λ (ys : List EventValue). reverse (unused_flags ys)) is

pub used_more : (e : EventValue) (xs es : List EventValue) (old new : List ℕ → Bool) → xs ≡ e ∷ es → ((q : List ℕ) → old q ≡ is_used es q)
    → ((q : List ℕ) → new q ≡ (not (is_anchor_of q e.anchor) && (is_alias_of q e.kind || old q))) → (q : List ℕ) → new q ≡ is_used xs q
used_more e xs es old new is o n q =
    n q ∙ ap (λ (b : Bool). not (is_anchor_of q e.anchor) && (is_alias_of q e.kind || b)) (o q) ∙ sym (ap (λ (ys : List EventValue). is_used ys q) is)

pub declared_more : (e : EventValue) (xs es : List EventValue) (old new : List ℕ → Bool) → xs ≡ e ∷ es → ((q : List ℕ) → old q ≡ is_declared es q)
    → ((q : List ℕ) → new q ≡ (is_anchor_of q e.anchor || old q)) → (q : List ℕ) → new q ≡ is_declared xs q
declared_more e xs es old new is o n q = n q ∙ ap (λ (b : Bool). is_anchor_of q e.anchor || b) (o q) ∙ sym (ap (λ (ys : List EventValue). is_declared ys q) is)

snoc : (new : List Bool) (b : Bool) → reverse (new ++ b ∷ []) ≡ b ∷ reverse new
snoc new b = reverse-append new (b ∷ [])

-- the last flag, and those before it
pub last_flag : (old new later : List Bool) (flag : Bool) (r : Option Bool) → (r ≡ None → length old ≡ 0) → old ≡ new ++ option_to_list r → old ≡ reverse (flag ∷ later)
    → (unwrap_or r false ≡ flag) × (new ≡ reverse later)
last_flag old new later flag None none is all = absurd (by_length (reverse later) (sym (ap length (all ∙ reverse-append (flag ∷ []) later)) ∙ none refl))
  where
    by_length : (xs : List Bool) → length (xs ++ flag ∷ []) ≡ 0 → ⊥
    by_length [] e = cc
    by_length (x ∷ xs) e = cc
last_flag old new later flag (Some b) none is all =
    let both : b ∷ reverse new ≡ flag ∷ later = sym (snoc new b) ∙ ap reverse (sym is ∙ all) ∙ reverse-reverse (flag ∷ later) in
    let rest : reverse new ≡ later = cc in
    let first : b ≡ flag = cc in
    (first, sym (reverse-reverse new) ∙ ap reverse rest)
