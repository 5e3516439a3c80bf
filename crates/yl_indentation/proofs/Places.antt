-- A place of a list that is seen through two functions.
use Rattle.std.proofs.Common.{◌≡◌, ℕ, ◌<◌, refl, sym, ◌∙◌, List, map, length, get_or, Some}
use Rattle.std.specs.Prelude.{slice_get}
use Rattle.std.proofs.lemmas.Option.{slice_get-map, slice_get_read}

pub seen_at : {X Y Z : Type 0} (v : X → Y) (w : Y → Z) (xs : List X) (i : ℕ) (x : X) → i < length xs → x ≡ get_or xs i x → Some (w (v x)) ≡ slice_get (map w (map v xs)) i
seen_at v w xs i x h e =
    let here = slice_get_read xs (length xs) i x refl h e in
    sym (slice_get-map w (map v xs) i ∙ rw (slice_get-map v xs i, here) refl)
