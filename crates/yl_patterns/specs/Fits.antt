-- Meaning: whether a path fits the items of a pattern. A path is names with `/` between them. The items are held against its characters
-- from the first on.
use Rattle.std.specs.Prelude.{ℕ, Bool, true, false, not, ◌&&◌, ◌||◌, ◌==◌, nat_le, if◌then◌else◌, List, [], ◌∷◌}
use Prim.Native.Char.{code}
use Rattle.yl_patterns.specs.declared.item.Item.{Item}
use Rattle.yl_patterns.specs.declared.item.Item.TheVariants.{Character, AnyCharacter, Class, Range, Star, Folders}

abbrev pub is_slash : ℕ → Bool
is_slash c = c == code "/"

-- a name ends here
abbrev pub is_name_end : List ℕ → Bool
is_name_end [] = true
is_name_end (c ∷ cs) = is_slash c

-- a character is in one of the ranges of a class, which stand after it
abbrev pub is_in_ranges : List Item → ℕ → Bool
is_in_ranges (Range first last ∷ is) c = (nat_le first c && nat_le c last) || is_in_ranges is c
is_in_ranges _ c = false

-- the item stands for this character. What stands for several never stands for `/`
abbrev pub stands_for : Item → List Item → ℕ → Bool
stands_for (Character x) is c = c == x
stands_for AnyCharacter is c = not (is_slash c)
stands_for (Class negated) is c = not (is_slash c) && (if negated then not (is_in_ranges is c) else is_in_ranges is c)
stands_for (Range first last) is c = false
stands_for Star is c = false
stands_for Folders is c = false

-- a character that passes, and then what fits the next items
abbrev pub one_fits : (ℕ → Bool) → (List ℕ → Bool) → List ℕ → Bool
one_fits passes next [] = false
one_fits passes next (c ∷ cs) = passes c && next cs

-- some characters of a name, or none, and then what fits the next items
abbrev pub run_fits : (List ℕ → Bool) → List ℕ → Bool
run_fits next [] = next []
run_fits next (c ∷ cs) = next (c ∷ cs) || (not (is_slash c) && run_fits next cs)

-- what stands after some `/` fits the next items
abbrev pub some_folder_fits : (List ℕ → Bool) → List ℕ → Bool
some_folder_fits next [] = false
some_folder_fits next (c ∷ cs) = (is_slash c && next cs) || some_folder_fits next cs

-- what fits an item and then the next ones. The ranges of a class count where the class stands
abbrev pub item_fits : Item → List Item → (List ℕ → Bool) → List ℕ → Bool
item_fits Star is next cs = run_fits next cs
item_fits Folders is next cs = next cs || some_folder_fits next cs
item_fits (Range first last) is next cs = next cs
item_fits (Character x) is next cs = one_fits (stands_for (Character x) is) next cs
item_fits AnyCharacter is next cs = one_fits (stands_for AnyCharacter is) next cs
item_fits (Class negated) is next cs = one_fits (stands_for (Class negated) is) next cs

-- a path fits items: with what fits them a name ends, and what lies below what fits fits too
abbrev pub items_fit : List Item → List ℕ → Bool
items_fit [] cs = is_name_end cs
items_fit (i ∷ is) cs = item_fits i is (λ rest. items_fit is rest) cs
