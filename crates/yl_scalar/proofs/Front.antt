-- White space at a line's start.
use Rattle.std.proofs.Common.{◌≡◌, ℕ, suc, ◌+◌, ◌<◌, Bool, true, false, ◌&&◌, cond, List, [], ◌∷◌, length, arith}
use Rattle.std.specs.List.{prefix_len}
use Rattle.yl_text.specs.Character.{is_white, is_blank}

-- a line that is not blank does not end with it
pub white_within : (row : List ℕ) → is_blank row ≡ false → prefix_len is_white row < length row
white_within [] h = cc
white_within (c ∷ cs) h = by_case (is_white c) h (white_within cs)
  where
    by_case : (b : Bool) → (b && is_blank cs) ≡ false → (is_blank cs ≡ false → prefix_len is_white cs < length cs) →
        cond b (1 + prefix_len is_white cs) 0 < suc (length cs)
    by_case true h ih = let lt : prefix_len is_white cs < length cs = ih h in omega arith
    by_case false h ih = omega arith
