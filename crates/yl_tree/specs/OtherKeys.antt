-- Bridge: the keys of open mappings that are in sets, and not on the stack of all open mappings.
use Rattle.std.specs.Prelude.{ℕ, zero, suc, Bool, false, List, [], ◌∷◌, Option, Some, None, Box, String}
use Rattle.std.specs.HashSet.{HashSet, contains_text}

module _ {A S Z : Type 0} where
  abbrev pub is_other : Option (Box (HashSet (String A) S) Z) → List ℕ → Bool
  is_other None name = false
  is_other (Some names) name = contains_text names.value name

  -- the name is in the set of the mapping with the index n, the innermost first
  abbrev pub is_outer : List (Option (Box (HashSet (String A) S) Z)) → ℕ → List ℕ → Bool
  is_outer [] n name = false
  is_outer (o ∷ os) zero name = is_other o name
  is_outer (o ∷ os) (suc n) name = is_outer os n name

  -- the name is in the set of the mapping with the index n, where `first` is that of the innermost
  -- mapping
  abbrev pub is_other_at : Option (Box (HashSet (String A) S) Z) → List (Option (Box (HashSet (String A) S) Z)) → ℕ → List ℕ → Bool
  is_other_at first outer zero name = is_other first name
  is_other_at first outer (suc n) name = is_outer outer n name
