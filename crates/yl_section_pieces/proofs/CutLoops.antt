-- Steps of loops that take the items of a list that stand above a row, and of a sort of references.
use Rattle.std.proofs.Common.{◌≡◌, ◌<◌, ◌≤◌, ◌+◌, ℕ, List, [], ◌∷◌, ◌++◌, cond, true, false, Bool, length, take, drop, map, refl, ap, sym, ◌∙◌, subst, arith, get_or, append_assoc, append-nil}
use Rattle.std.specs.Prelude.{◌==◌, nat_lt}
use Rattle.std.specs.List.{AllByRecursion}
use Rattle.std.specs.List.Sorted.{IsNonDecreasingBy}
use Rattle.std.specs.Ordering.{is_lt, nat_cmp, ord_max}
use Rattle.std.specs.declared.cmp.Ordering.TheVariants.{Equal, Greater, Less}
use Rattle.std.proofs.lemmas.Bool.{le-ltb, lt-ltb, ltb-false, ltb-true}
use Rattle.std.proofs.lemmas.List.{drop_all, drop_more, get_or-map, length-append, length-map, take_more}
use Rattle.yl_text.proofs.Every.{all_both, all_then}
use Rattle.yl_section_pieces.specs.Cut.{above_row}
use Rattle.yl_section_pieces.proofs.CutLists.{above_cons}

-- ---- items that stand above a row

module _ {X Y : Type 0} (row : X → ℕ) (f : X → Y) (n : ℕ) (xs : List X) (done : List Y) (i : ℕ) where
  abbrev left : ℕ → List Y
  left j = map f (above_row row n (drop j xs))

  -- the next one does
  pub part_more : (x d : X) → i < length xs → x ≡ get_or xs i d → row x < n → done ++ left i ≡ (done ++ f x ∷ []) ++ left (i + 1)
  part_more x d inside at low =
      let first : drop i xs ≡ x ∷ drop (i + 1) xs = drop_more xs i d inside ∙ ap (λ (y : X). y ∷ drop (i + 1) xs) (sym at) in
      let one : above_row row n (drop i xs) ≡ x ∷ above_row row n (drop (i + 1) xs)
      = ap (above_row row n) first ∙ (above_cons row n x (drop (i + 1) xs) ∙ ap (λ (b : Bool). cond b (x ∷ above_row row n (drop (i + 1) xs)) []) (lt-ltb (row x) n low)) in
      ap (λ (ys : List X). done ++ map f ys) one ∙ sym (append_assoc done (f x ∷ []) (left (i + 1)))

  -- the next one does not, so none is left
  pub part_stops : (x d : X) → i < length xs → x ≡ get_or xs i d → n ≤ row x → done ++ left i ≡ done
  part_stops x d inside at high =
      let first : drop i xs ≡ x ∷ drop (i + 1) xs = drop_more xs i d inside ∙ ap (λ (y : X). y ∷ drop (i + 1) xs) (sym at) in
      let none : above_row row n (drop i xs) ≡ []
      = ap (above_row row n) first ∙ (above_cons row n x (drop (i + 1) xs) ∙ ap (λ (b : Bool). cond b (x ∷ above_row row n (drop (i + 1) xs)) []) (le-ltb (row x) n high)) in
      ap (λ (ys : List X). done ++ map f ys) none ∙ append-nil done

  -- all were taken
  pub part_ends : length xs ≤ i → done ++ left i ≡ done
  part_ends past = ap (λ (ys : List X). done ++ map f (above_row row n ys)) (drop_all i xs past) ∙ append-nil done

-- one more item was taken
pub taken_more : {Y : Type 0} (at from : ℕ) (done new : List Y) (y : Y) → at ≡ from + length done → new ≡ done ++ y ∷ [] → at + 1 ≡ from + length new
taken_more at from done new y e is =
    let many : length new ≡ length done + 1 = ap (λ ys. length ys) is ∙ length-append done (y ∷ []) in
    omega (arith, e, many)

-- ---- what holds of the first items

pub all_more : {X : Type 0} (P Q : X → Type 0) (xs : List X) (i : ℕ) (x : X) → i < length xs → x ≡ get_or xs i x → ((y : X) → P y → Q y) → AllByRecursion P (take i xs) → Q x
    → AllByRecursion Q (take (i + 1) xs)
all_more {X} P Q xs i x inside at each h g =
    subst (λ (ys : List X). AllByRecursion Q ys) (sym (take_more xs i x inside ∙ ap (λ (y : X). take i xs ++ y ∷ []) (sym at)))
    (all_both Q (take i xs) (x ∷ []) (all_then P Q (take i xs) each h) (g, tt))

-- ---- a list in order

pub sorted_map : {X Y : Type 0} (f : X → Y) (n : Y → ℕ) (xs : List X) → IsNonDecreasingBy (λ (x : X). n (f x)) xs → IsNonDecreasingBy n (map f xs)
sorted_map f n [] h i j d le lt = absurd (omega (arith, lt))
sorted_map f n (x ∷ xs) h i j d le lt =
    let many : length (map f (x ∷ xs)) ≡ length (x ∷ xs) = length-map (x ∷ xs) f in
    let far : j < length (x ∷ xs) = omega (arith, lt, many) in
    let near : i < length (x ∷ xs) = omega (arith, le, far) in
    let one = ap n (get_or-map f (x ∷ xs) i x d near) in
    let two = ap n (get_or-map f (x ∷ xs) j x d far) in
    let both : n (f (get_or (x ∷ xs) i x)) ≤ n (f (get_or (x ∷ xs) j x)) = h i j x le far in
    omega (arith, one, two, both)

-- ---- the greater of two numbers

pub record IsGreater (a b m : ℕ) : Type 0 where
  pub left : a ≤ m
  pub right : b ≤ m
  pub only : (n : ℕ) → a ≤ n → b ≤ n → m ≤ n

max_by : (a b : ℕ) (t u : Bool) → nat_lt b a ≡ t → IsGreater a b (cond (is_lt (cond t Less (cond u Equal Greater))) a b)
max_by a b true u e = let far : b < a = ltb-true b a e in record { left = omega arith; right = omega (arith, far); only = λ n h g. h }
max_by a b false true e = let far : a ≤ b = ltb-false b a e in record { left = far; right = omega arith; only = λ n h g. g }
max_by a b false false e = let far : a ≤ b = ltb-false b a e in record { left = far; right = omega arith; only = λ n h g. g }

pub max_greater : (a b : ℕ) → IsGreater a b (ord_max nat_cmp a b)
max_greater a b = max_by a b (nat_lt b a) (b == a) refl
