-- Lists of which a part is put in its own place.
use Rattle.std.proofs.Common.{◌≡◌, ℕ, ◌-◌, ◌≤◌, List, length, take, drop, ap, sym, ◌∙◌, arith, rules}
use Rattle.std.specs.List.{splice}
use Rattle.std.proofs.lemmas.List.{same_lists, places}

-- what is put in place of the same
pub splice_same : {X : Type 0} (xs ns : List X) (from end : ℕ) → from ≤ end → end ≤ length xs → take (end - from) (drop from xs) ≡ ns → splice xs from end ns ≡ xs
splice_same xs ns from end o l e = ap (λ ms. splice xs from end ms) (sym e) ∙ same_lists _ _ (search (rules, places)) (λ k d h. grind (arith, places))
