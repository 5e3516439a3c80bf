-- The other keys of a mapping that becomes the innermost.
use Rattle.std.proofs.Common.{◌≡◌, ℕ, zero, suc, List, [], ◌∷◌, ◌++◌, length, refl, Option, None, Box}
use Rattle.std.specs.Prelude.{reverse, String}
use Rattle.std.proofs.lemmas.List.{reverse-append}
use Rattle.std.specs.HashSet.{HashSet}
use Rattle.yl_tree.specs.OtherKeys.{is_other_at, is_outer}

none_around : (A S Z : Type 0) (q : List ℕ) (n : ℕ) → is_other_at {A = A} {S = S} {Z = Z} None [] n q ≡ is_outer {A = A} {S = S} {Z = Z} [] n q
none_around A S Z q zero = refl
none_around A S Z q (suc n) = refl

empty : {X : Type 0} (xs : List X) → length xs ≡ 0 → xs ≡ []
empty [] e = refl
empty (x ∷ xs) e = cc

module _ {A S Z : Type 0} (q : List ℕ) where
  around : (os : List (Option (Box (HashSet (String A) S) Z))) (o : Option (Box (HashSet (String A) S) Z)) (n : ℕ) → is_other_at o os n q ≡ is_outer (o ∷ os) n q
  around os o zero = refl
  around os o (suc n) = refl

  pub popped_one : (all rest : List (Option (Box (HashSet (String A) S) Z))) (o : Option (Box (HashSet (String A) S) Z)) (n : ℕ) → all ≡ rest ++ o ∷ []
      → is_other_at o (reverse rest) n q ≡ is_outer (reverse all) n q
  popped_one all rest o n e = rw (e, reverse-append rest (o ∷ [])) (around (reverse rest) o n)

  pub popped_none : (all rest : List (Option (Box (HashSet (String A) S) Z))) (n : ℕ) → length all ≡ 0 → length rest ≡ 0
      → is_other_at None (reverse rest) n q ≡ is_outer (reverse all) n q
  popped_none all rest n e d = rw (empty all e, empty rest d) (none_around A S Z q n)
