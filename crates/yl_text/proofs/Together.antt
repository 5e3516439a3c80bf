-- Rows that lie together in edited lines, by where they stand.
use Rattle.std.proofs.Common.{◌≡◌, ◌+◌, ◌-◌, ◌≤◌, ◌∙◌, ℕ, List, ◌++◌, length, take, drop, ap, sym, arith}
use Rattle.std.proofs.lemmas.List.{drop-append-le, take-append-le, drop-take, take-take, drop-drop, length-take, length-drop}
use Rattle.std.proofs.Math.Seq.{drop-append-add}
use Rattle.std.specs.List.{splice}

-- before the place of the edit
pub in_front : {X : Type 0} (xs ys : List X) (a b i n : ℕ) → i + n ≤ a → a ≤ length xs → take n (drop i (splice xs a b ys)) ≡ take n (drop i xs)
in_front xs ys a b i n l w =
    let rest = ys ++ drop b xs in
    let front : length (take a xs) ≡ a = omega (arith, length-take a xs, w) in
    let here : drop i (splice xs a b ys) ≡ drop i (take a xs) ++ rest = drop-append-le i (take a xs) rest (omega (arith, front, l)) in
    let some : n ≤ length (drop i (take a xs)) = omega (arith, front, l, length-drop i (take a xs)) in
    let cut : drop i (take a xs) ≡ take (a - i) (drop i xs) = ap (λ m. drop i (take m xs)) (omega (arith, l)) ∙ drop-take i (a - i) xs in
    ap (take n) here ∙ take-append-le n (drop i (take a xs)) rest some ∙ ap (take n) cut ∙ take-take n (a - i) (drop i xs) (omega (arith, l))

-- from the place of the edit on
pub from_place : {X : Type 0} (xs ys : List X) (a b k : ℕ) → a ≤ length xs → drop (a + k) (splice xs a b ys) ≡ drop k (ys ++ drop b xs)
from_place xs ys a b k w =
    let front : length (take a xs) ≡ a = omega (arith, length-take a xs, w) in
    ap (λ m. drop (m + k) (splice xs a b ys)) (sym front) ∙ drop-append-add (take a xs) (ys ++ drop b xs) k

-- behind the new rows
pub behind : {X : Type 0} (xs ys : List X) (a b k : ℕ) → a ≤ length xs → length ys ≤ k → drop (a + k) (splice xs a b ys) ≡ drop (b + (k - length ys)) xs
behind xs ys a b k w l =
    from_place xs ys a b k w
    ∙ ap (λ m. drop m (ys ++ drop b xs)) (omega (arith, l))
    ∙ drop-append-add ys (drop b xs) (k - length ys)
    ∙ drop-drop (k - length ys) b xs
