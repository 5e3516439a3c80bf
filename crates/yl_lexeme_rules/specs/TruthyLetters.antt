-- Bridge: the lengths and first letters of the truthy words. A word that differs in these from all
-- of them needs no comparison.
use Rattle.std.specs.Prelude.{ℕ, Bool, false, ◌&&◌, ◌||◌, ◌==◌, List, [], ◌∷◌, length, codes}
use Rattle.std.specs.List.{list_any}

abbrev pub is_among_letters : ℕ → List ℕ → Bool
is_among_letters c letters = list_any (λ letter. letter == c) letters

-- some truthy word begins with the letter `c` and has `more` further letters
abbrev pub is_first_letter : ℕ → ℕ → Bool
is_first_letter more c =
    (more == 1 && is_among_letters c (codes "NOno")) || (more == 2 && is_among_letters c (codes "OYoy"))
    || (more == 3 && is_among_letters c (codes "Tt")) || (more == 4 && is_among_letters c (codes "Ff"))

-- some truthy word has the length and the first letter of this word
abbrev pub may_be_truthy : List ℕ → Bool
may_be_truthy [] = false
may_be_truthy (c ∷ cs) = is_first_letter (length cs) c
