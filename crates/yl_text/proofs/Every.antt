-- Lists of which something holds of each element.
use Rattle.std.proofs.Common.{ℕ, zero, suc, Bool, true, false, if◌then◌else◌, List, [], ◌∷◌, ◌++◌, map, take, drop, sym, subst}
use Rattle.std.specs.Prelude.{slice_get, IfSome}
use Rattle.std.specs.List.{AllByRecursion, filter, flat_map}
use Rattle.std.proofs.lemmas.List.{take-append-drop}

module _ {X : Type 0} (P : X → Type 0) where
  pub all_both : (xs ys : List X) → AllByRecursion P xs → AllByRecursion P ys → AllByRecursion P (xs ++ ys)
  all_both [] ys h g = g
  all_both (x ∷ xs) ys h g = (h.0, all_both xs ys h.1 g)

  pub all_front : (xs ys : List X) → AllByRecursion P (xs ++ ys) → AllByRecursion P xs
  all_front [] ys h = tt
  all_front (x ∷ xs) ys h = (h.0, all_front xs ys h.1)

  pub all_back : (xs ys : List X) → AllByRecursion P (xs ++ ys) → AllByRecursion P ys
  all_back [] ys h = h
  all_back (x ∷ xs) ys h = all_back xs ys h.1

  pub all_take : (xs : List X) (n : ℕ) → AllByRecursion P xs → AllByRecursion P (take n xs)
  all_take xs n h = all_front (take n xs) (drop n xs) (subst (λ ys. AllByRecursion P ys) (sym (take-append-drop n xs)) h)

  pub all_drop : (xs : List X) (n : ℕ) → AllByRecursion P xs → AllByRecursion P (drop n xs)
  all_drop xs n h = all_back (take n xs) (drop n xs) (subst (λ ys. AllByRecursion P ys) (sym (take-append-drop n xs)) h)

  pub all_got : (xs : List X) (i : ℕ) → AllByRecursion P xs → IfSome (slice_get xs i) P
  all_got [] i h = tt
  all_got (x ∷ xs) zero h = h.0
  all_got (x ∷ xs) (suc i) h = all_got xs i h.1

  -- the last of them
  pub all_last : (xs : List X) (y : X) → AllByRecursion P (xs ++ y ∷ []) → P y
  all_last [] y h = h.0
  all_last (x ∷ xs) y h = all_last xs y h.1

  -- of one list or the other
  pub all_either : (b : Bool) (xs ys : List X) → AllByRecursion P xs → AllByRecursion P ys → AllByRecursion P (if b then xs else ys)
  all_either true xs ys h g = h
  all_either false xs ys h g = g

  pub all_if : (b : Bool) (xs : List X) → AllByRecursion P xs → AllByRecursion P (if b then xs else [])
  all_if b xs h = all_either b xs [] h tt

  all_cond : (b : Bool) (x : X) (xs : List X) → P x → AllByRecursion P xs → AllByRecursion P (if b then x ∷ xs else xs)
  all_cond true x xs h g = (h, g)
  all_cond false x xs h g = g

  pub all_filter : (p : X → Bool) (xs : List X) → AllByRecursion P xs → AllByRecursion P (filter p xs)
  all_filter p [] h = tt
  all_filter p (x ∷ xs) h = all_cond (p x) x (filter p xs) h.0 (all_filter p xs h.1)

  -- what a function gives of elements of which something holds
  pub all_map : {Y : Type 0} (Q : Y → Type 0) (f : Y → X) (ys : List Y) → ((y : Y) → Q y → P (f y)) → AllByRecursion Q ys → AllByRecursion P (map f ys)
  all_map Q f [] each h = tt
  all_map Q f (y ∷ ys) each h = (each y h.0, all_map Q f ys each h.1)

  pub all_flat_map : {Y : Type 0} (Q : Y → Type 0) (f : Y → List X) (ys : List Y) → ((y : Y) → Q y → AllByRecursion P (f y)) → AllByRecursion Q ys → AllByRecursion P (flat_map f ys)
  all_flat_map Q f [] each h = tt
  all_flat_map Q f (y ∷ ys) each h = all_both (f y) (flat_map f ys) (each y h.0) (all_flat_map Q f ys each h.1)

-- where one thing follows from the other
pub all_then : {X : Type 0} (P Q : X → Type 0) (xs : List X) → ((x : X) → P x → Q x) → AllByRecursion P xs → AllByRecursion Q xs
all_then P Q [] each h = tt
all_then P Q (x ∷ xs) each h = (each x h.0, all_then P Q xs each h.1)
