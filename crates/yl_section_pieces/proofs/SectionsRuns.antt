-- Lists one after another: what stands at an index of the second, and before and after an index.
use Rattle.std.proofs.Common.{◌≡◌, ◌<◌, ◌+◌, ℕ, zero, suc, List, [], ◌∷◌, ◌++◌, length, take, drop, Some, refl, ap, sym, ◌∙◌, arith, append_assoc}
use Rattle.std.specs.Prelude.{slice_get}
use Rattle.std.specs.List.{splice}
use Rattle.std.proofs.lemmas.List.{length-append, length-take-le, take_at}

module _ {X : Type 0} where
  -- ---- nothing

  pub take_none : (n : ℕ) → take {A = X} n [] ≡ []
  take_none zero = refl
  take_none (suc n) = refl

  pub drop_none : (n : ℕ) → drop {A = X} n [] ≡ []
  drop_none zero = refl
  drop_none (suc n) = refl

  -- ---- more than so many

  pub take_both : (n m : ℕ) (xs : List X) → take (n + m) xs ≡ take n xs ++ take m (drop n xs)
  take_both zero m xs = let e : 0 + m ≡ m = omega arith in ap (λ (i : ℕ). take i xs) e
  take_both (suc n) m [] = take_none (suc n + m) ∙ sym (take_none m)
  take_both (suc n) m (x ∷ xs) =
      let e : suc n + m ≡ suc (n + m) = omega arith in
      ap (λ (i : ℕ). take i (x ∷ xs)) e ∙ ap (λ (ys : List X). x ∷ ys) (take_both n m xs)

  -- ---- in the first list, or after it

  pub at_first : (xs ys : List X) (i : ℕ) → i < length xs → slice_get (xs ++ ys) i ≡ slice_get xs i
  at_first [] ys i l = absurd (omega arith)
  at_first (x ∷ xs) ys zero l = refl
  at_first (x ∷ xs) ys (suc i) l = at_first xs ys i (omega arith)

  pub at_second : (xs ys : List X) (n : ℕ) → slice_get (xs ++ ys) (length xs + n) ≡ slice_get ys n
  at_second [] ys n = let e : 0 + n ≡ n = omega arith in ap (λ (i : ℕ). slice_get ys i) e
  at_second (x ∷ xs) ys n =
      let e : length (x ∷ xs) + n ≡ suc (length xs + n) = omega arith in
      ap (λ (i : ℕ). slice_get (x ∷ (xs ++ ys)) i) e ∙ at_second xs ys n

  pub take_second : (xs ys : List X) (n : ℕ) → take (length xs + n) (xs ++ ys) ≡ xs ++ take n ys
  take_second [] ys n = let e : 0 + n ≡ n = omega arith in ap (λ (i : ℕ). take i ys) e
  take_second (x ∷ xs) ys n =
      let e : length (x ∷ xs) + n ≡ suc (length xs + n) = omega arith in
      ap (λ (i : ℕ). take i (x ∷ (xs ++ ys))) e ∙ ap (λ (zs : List X). x ∷ zs) (take_second xs ys n)

  pub drop_second : (xs ys : List X) (n : ℕ) → drop (length xs + n) (xs ++ ys) ≡ drop n ys
  drop_second [] ys n = let e : 0 + n ≡ n = omega arith in ap (λ (i : ℕ). drop i ys) e
  drop_second (x ∷ xs) ys n =
      let e : length (x ∷ xs) + n ≡ suc (length xs + n) = omega arith in
      ap (λ (i : ℕ). drop i (x ∷ (xs ++ ys))) e ∙ drop_second xs ys n

  -- ---- around an item

  pub record IsAround (xs : List X) (i : ℕ) (x : X) : Type 0 where
    pub above : List X
    pub below : List X
    pub all : xs ≡ above ++ (x ∷ below)
    pub long : length above ≡ i

  pub around_item : (xs : List X) (i : ℕ) (x : X) → slice_get xs i ≡ Some x → IsAround xs i x
  around_item [] i x e = absurd (cc)
  around_item (y ∷ xs) zero x e = let same : y ≡ x = cc in record { above = []; below = xs; all = ap (λ (z : X). z ∷ xs) same; long = refl }
  around_item (y ∷ xs) (suc i) x e =
      let r = around_item xs i x e in
      record { above = y ∷ r.above; below = r.below; all = ap (λ (zs : List X). y ∷ zs) r.all; long = omega (arith, r.long) }

  -- lists in which the item stands, with another item in its place
  regrouped : (front above below back : List X) (x : X) → front ++ ((above ++ (x ∷ below)) ++ back) ≡ (front ++ above) ++ (x ∷ (below ++ back))
  regrouped front above below back x = simp append_assoc

  -- what stands before the item, and after it
  front_is : (xs front above rest : List X) (i : ℕ) → xs ≡ (front ++ above) ++ rest → length front + length above ≡ i → take i xs ≡ front ++ above
  front_is xs front above rest i all long = ap (λ (ys : List X). take i ys) all ∙ take_at (front ++ above) rest i (omega (arith, length-append front above))

  place_is : (front above : List X) (i : ℕ) → length front + length above ≡ i → i + 1 ≡ length (front ++ above) + 1
  place_is front above i long = omega (arith, length-append front above)

  back_is : (xs front above rest : List X) (x : X) (i : ℕ)
      → xs ≡ (front ++ above) ++ (x ∷ rest) → length front + length above ≡ i → drop (i + 1) xs ≡ rest
  back_is xs front above rest x i all long =
      ap (λ (ys : List X). drop (i + 1) ys) all
      ∙ (ap (λ (n : ℕ). drop n ((front ++ above) ++ (x ∷ rest))) (place_is front above i long) ∙ drop_second (front ++ above) (x ∷ rest) 1)

  next_is : (xs front above rest : List X) (x y : X) (i : ℕ)
      → xs ≡ (front ++ above) ++ (x ∷ (y ∷ rest)) → length front + length above ≡ i → slice_get xs (i + 1) ≡ Some y
  next_is xs front above rest x y i all long =
      ap (λ (ys : List X). slice_get ys (i + 1)) all
      ∙ (ap (λ (n : ℕ). slice_get ((front ++ above) ++ (x ∷ (y ∷ rest))) n) (place_is front above i long) ∙ at_second (front ++ above) (x ∷ (y ∷ rest)) 1)

  -- so many items before a run, in which the item stands
  module _
      (xs above below : List X) (start end i : ℕ) (x : X)
      (all : xs ≡ take start xs ++ ((above ++ (x ∷ below)) ++ drop end xs)) (at : start + length above ≡ i) (within : i < length xs) where
    long : length (take start xs) + length above ≡ i
    long = omega (arith, length-take-le start xs (omega arith))

    whole : xs ≡ (take start xs ++ above) ++ (x ∷ (below ++ drop end xs))
    whole = all ∙ regrouped (take start xs) above below (drop end xs) x

    pub taken_around : take i xs ≡ take start xs ++ above
    taken_around = front_is xs (take start xs) above (x ∷ (below ++ drop end xs)) i whole long

    pub next_around : (y : X) (lower : List X) → below ≡ y ∷ lower → slice_get xs (i + 1) ≡ Some y
    next_around y lower e =
        let next : xs ≡ (take start xs ++ above) ++ (x ∷ (y ∷ (lower ++ drop end xs))) =
        whole ∙ ap (λ (zs : List X). (take start xs ++ above) ++ (x ∷ (zs ++ drop end xs))) e in
        next_is xs (take start xs) above (lower ++ drop end xs) x y i next long

    pub put_around : (y : X) → splice xs start end (above ++ (y ∷ below)) ≡ splice xs i (i + 1) (y ∷ [])
    put_around y =
        let after : drop (i + 1) xs ≡ below ++ drop end xs = back_is xs (take start xs) above (below ++ drop end xs) x i whole long in
        regrouped (take start xs) above below (drop end xs) y
        ∙ sym (ap (λ (zs : List X). zs ++ (y ∷ drop (i + 1) xs)) taken_around ∙ ap (λ (zs : List X). (take start xs ++ above) ++ (y ∷ zs)) after)
