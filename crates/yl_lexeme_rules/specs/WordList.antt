-- Bridge: the text of the remaining words in a list of words.
use Rattle.std.specs.Prelude.{ℕ, Bool, false, if◌then◌else◌, List, [], ◌∷◌, ◌++◌, codes}

-- each word has a comma and a space before it, except the first of the whole list
abbrev pub word_list : Bool → List (List ℕ) → List ℕ
word_list is_first [] = []
word_list is_first (w ∷ ws) = (if is_first then w else codes ", " ++ w) ++ word_list false ws
