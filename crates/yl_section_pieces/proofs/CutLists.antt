-- Lists of items that stand in rows, cut where rows end.
use Rattle.std.proofs.Common.{◌≡◌, ◌<◌, ◌≤◌, ℕ, Bool, true, false, cond, List, [], ◌∷◌, ◌++◌, length, take, drop, map, refl, ap, sym, ◌∙◌, subst, arith}
use Rattle.std.specs.Prelude.{nat_lt}
use Rattle.std.specs.List.{AllByRecursion, prefix_len}
use Rattle.std.specs.List.Sorted.{IsNonDecreasingBy}
use Rattle.std.proofs.lemmas.Bool.{ltb-false, ltb-true}
use Rattle.std.proofs.lemmas.List.{take-append-drop}
use Rattle.std.proofs.lemmas.List.Sorted.{IsNonDecreasingBy-drop}
use Rattle.std.proofs.lemmas.List.Sums.{take_while-cons}
use Rattle.yl_section_pieces.specs.Cut.{above_row}
use Rattle.yl_text.proofs.Every.{all_take}

-- no item above row n comes after one that stands in it or below
abbrev pub IsParted : {X : Type 0} → (X → ℕ) → ℕ → List X → Type 0
IsParted row n [] = Unit {0}
IsParted row n (x ∷ xs) = (n ≤ row x → AllByRecursion (λ y. n ≤ row y) xs) × IsParted row n xs

module _ {X : Type 0} (row : X → ℕ) where
  -- ---- lists in two parts

  pub parted_back : (n : ℕ) (xs ys : List X) → IsParted row n (xs ++ ys) → IsParted row n ys
  parted_back n [] ys h = h
  parted_back n (x ∷ xs) ys h = parted_back n xs ys h.1

  pub parted_drop : (n k : ℕ) (xs : List X) → IsParted row n xs → IsParted row n (drop k xs)
  parted_drop n k xs h = parted_back n (take k xs) (drop k xs) (subst (λ (ys : List X). IsParted row n ys) (sym (take-append-drop k xs)) h)

  parted_below : (n : ℕ) (ys : List X) → AllByRecursion (λ y. n ≤ row y) ys → IsParted row n ys
  parted_below n [] h = tt
  parted_below n (y ∷ ys) h = (λ l. h.1, parted_below n ys h.1)

  pub parted_both : (n : ℕ) (xs ys : List X) → AllByRecursion (λ x. row x < n) xs → AllByRecursion (λ y. n ≤ row y) ys → IsParted row n (xs ++ ys)
  parted_both n [] ys h g = parted_below n ys g
  parted_both n (x ∷ xs) ys h g = (λ l. absurd (no l h.0), parted_both n xs ys h.1 g)
    where
      no : n ≤ row x → row x < n → ⊥
      no l m = omega (arith, l, m)

  pub parted_above : (n : ℕ) (xs : List X) → AllByRecursion (λ x. row x < n) xs → IsParted row n xs
  parted_above n [] h = tt
  parted_above n (x ∷ xs) h = (λ l. absurd (no l h.0), parted_above n xs h.1)
    where
      no : n ≤ row x → row x < n → ⊥
      no l m = omega (arith, l, m)

  -- a list in order
  sorted_tail : (x : X) (xs : List X) → IsNonDecreasingBy row (x ∷ xs) → IsNonDecreasingBy row xs
  sorted_tail x xs h = IsNonDecreasingBy-drop row 1 (x ∷ xs) h

  sorted_above : (n : ℕ) (x : X) (xs : List X) → IsNonDecreasingBy row (x ∷ xs) → n ≤ row x → AllByRecursion (λ y. n ≤ row y) xs
  sorted_above n x [] h l = tt
  sorted_above n x (y ∷ ys) h l =
      let next : row x ≤ row y = h 0 1 x (omega arith) (omega arith) in
      let here : n ≤ row y = omega (arith, l, next) in
      (here, sorted_above n y ys (sorted_tail x (y ∷ ys) h) here)

  pub parted_sorted : (n : ℕ) (xs : List X) → IsNonDecreasingBy row xs → IsParted row n xs
  parted_sorted n [] h = tt
  parted_sorted n (x ∷ xs) h = (sorted_above n x xs h, parted_sorted n xs (sorted_tail x xs h))

  -- ---- the items above a row, and those left

  pub above_cons : (n : ℕ) (x : X) (xs : List X) → above_row row n (x ∷ xs) ≡ cond (nat_lt (row x) n) (x ∷ above_row row n xs) []
  above_cons n x xs = take_while-cons (λ (y : X). nat_lt (row y) n) x xs

  -- all of them pass
  passes_by : (n : ℕ) (x : X) (ys : List X) (b : Bool) → nat_lt (row x) n ≡ b → AllByRecursion (λ y. row y < n) ys → AllByRecursion (λ y. row y < n) (cond b (x ∷ ys) [])
  passes_by n x ys true e h = (ltb-true (row x) n e, h)
  passes_by n x ys false e h = tt

  pub above_passes : (n : ℕ) (xs : List X) → AllByRecursion (λ x. row x < n) (above_row row n xs)
  above_passes n [] = tt
  above_passes n (x ∷ xs) =
      subst (λ (ys : List X). AllByRecursion (λ y. row y < n) ys) (sym (above_cons n x xs)) (passes_by n x (above_row row n xs) (nat_lt (row x) n) refl (above_passes n xs))

  pub above_all : (P : X → Type 0) (n : ℕ) (xs : List X) → AllByRecursion P xs → AllByRecursion P (above_row row n xs)
  above_all P n xs h = all_take P xs (prefix_len (λ (y : X). nat_lt (row y) n) xs) h

  -- those left stand in the row or below
  left_by : (n : ℕ) (x : X) (ys xs : List X) (b : Bool) → nat_lt (row x) n ≡ b → (n ≤ row x → AllByRecursion (λ y. n ≤ row y) xs)
      → AllByRecursion (λ y. n ≤ row y) (drop (length ys) xs) → AllByRecursion (λ y. n ≤ row y) (drop (length (cond b (x ∷ ys) [])) (x ∷ xs))
  left_by n x ys xs true e g h = h
  left_by n x ys xs false e g h = let far : n ≤ row x = ltb-false (row x) n e in (far, g far)

  pub left_below : (n : ℕ) (xs : List X) → IsParted row n xs → AllByRecursion (λ x. n ≤ row x) (drop (length (above_row row n xs)) xs)
  left_below n [] h = tt
  left_below n (x ∷ xs) h =
      subst (λ (ys : List X). AllByRecursion (λ y. n ≤ row y) (drop (length ys) (x ∷ xs))) (sym (above_cons n x xs))
      (left_by n x (above_row row n xs) xs (nat_lt (row x) n) refl h.0 (left_below n xs h.1))

  -- the items and those left are all
  both_by : (x : X) (ys xs : List X) (b : Bool) → ys ++ drop (length ys) xs ≡ xs → cond b (x ∷ ys) [] ++ drop (length (cond b (x ∷ ys) [])) (x ∷ xs) ≡ x ∷ xs
  both_by x ys xs true h = ap (λ (zs : List X). x ∷ zs) h
  both_by x ys xs false h = refl

  pub above_and_left : (n : ℕ) (xs : List X) → above_row row n xs ++ drop (length (above_row row n xs)) xs ≡ xs
  above_and_left n [] = refl
  above_and_left n (x ∷ xs) =
      subst (λ (ys : List X). ys ++ drop (length ys) (x ∷ xs) ≡ x ∷ xs) (sym (above_cons n x xs)) (both_by x (above_row row n xs) xs (nat_lt (row x) n) (above_and_left n xs))

  -- where none stands below
  whole_by : (n : ℕ) (x : X) (ys xs : List X) (b : Bool) → nat_lt (row x) n ≡ b → row x < n → ys ≡ xs → cond b (x ∷ ys) [] ≡ x ∷ xs
  whole_by n x ys xs true e near h = ap (λ (zs : List X). x ∷ zs) h
  whole_by n x ys xs false e near h = let far : n ≤ row x = ltb-false (row x) n e in absurd (omega (arith, far, near))

  pub above_whole : (n : ℕ) (xs : List X) → AllByRecursion (λ x. row x < n) xs → above_row row n xs ≡ xs
  above_whole n [] h = refl
  above_whole n (x ∷ xs) h = above_cons n x xs ∙ whole_by n x (above_row row n xs) xs (nat_lt (row x) n) refl h.0 (above_whole n xs h.1)

-- moved up and down again
pub map_back : {X : Type 0} (f g : X → X) (P : X → Type 0) → ((x : X) → P x → f (g x) ≡ x) → (xs : List X) → AllByRecursion P xs → map f (map g xs) ≡ xs
map_back f g P each [] h = refl
map_back {X} f g P each (x ∷ xs) h =
    ap (λ (y : X). y ∷ map f (map g xs)) (each x h.0) ∙ ap (λ (ys : List X). x ∷ ys) (map_back f g P each xs h.1)

-- both of two facts
pub all_and : {X : Type 0} (P Q : X → Type 0) (xs : List X) → AllByRecursion P xs → AllByRecursion Q xs → AllByRecursion (λ x. P x × Q x) xs
all_and P Q [] h g = tt
all_and P Q (x ∷ xs) h g = ((h.0, g.0), all_and P Q xs h.1 g.1)
