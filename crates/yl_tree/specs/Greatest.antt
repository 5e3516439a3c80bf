-- Bridge: whether the greatest of some names is greater than a name.
use Rattle.std.specs.Prelude.{ℕ, Bool, List}
use Rattle.std.specs.List.{list_any}
use Rattle.yl_tree.specs.KeyRules.{is_greater}

-- one of these names is greater
abbrev pub is_greater_among : List (List ℕ) → List ℕ → Bool
is_greater_among names name = list_any (λ x. is_greater x name) names
