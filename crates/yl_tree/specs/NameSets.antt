-- Bridge: the names in a list or in a set.
use Rattle.std.specs.Prelude.{ℕ, Bool, true, List, Option, Some, None, bytes_eq}
use Rattle.std.specs.List.{list_any}
use denote.Ref.{Bor}
use Rattle.std.specs.HashSet.{HashSet}
use Rattle.yl_tree.specs.KeyRules.{is_greater}

abbrev pub is_among : List (List ℕ) → List ℕ → Bool
is_among names name = list_any (λ x. bytes_eq x name) names

abbrev pub has_name : {S : Type 0} → HashSet (Bor (List ℕ)) S → List ℕ → Bool
has_name names name = list_any (λ x. bytes_eq name x.now) names.keys

-- the name is greater than the greatest one, if there is one
abbrev pub is_above : Option (List ℕ) → List ℕ → Bool
is_above None name = true
is_above (Some greatest) name = is_greater name greatest
