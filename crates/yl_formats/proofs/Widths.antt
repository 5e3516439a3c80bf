-- Laws of the width of a line's pieces.
use Rattle.std.proofs.Common.{◌≡◌, ℕ, ◌+◌, ◌-◌, ◌<◌, List, [], ◌∷◌, ◌++◌, ap, ◌∙◌, append-nil, length, take, get_or, arith, length-append}
use Rattle.std.specs.List.{flat_map}
use Rattle.std.proofs.lemmas.List.{take_more}
use Rattle.std.proofs.lemmas.List.Concat.{flat_map-append}

-- what is left of a width after one more piece
pub left_after : {X : Type 0} (f : X → List ℕ) (xs : List X) (i : ℕ) (d : X) (width left : ℕ) → i < length xs
    → left ≡ width - length (flat_map f (take i xs)) → left - length (f (get_or xs i d)) ≡ width - length (flat_map f (take (i + 1) xs))
left_after f xs i d width left inside e =
    let next : List ℕ = f (get_or xs i d) in
    let more : flat_map f (take (i + 1) xs) ≡ flat_map f (take i xs) ++ next =
    rw (take_more xs i d inside) (flat_map-append f (take i xs) (get_or xs i d ∷ []) ∙ ap (λ l. flat_map f (take i xs) ++ l) (append-nil next)) in
    omega (arith, ap length more, length-append (flat_map f (take i xs)) next)
