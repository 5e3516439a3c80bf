-- Bridge: the levels of a stack of names.
use Rattle.std.specs.Prelude.{ℕ, zero, suc, ◌≡◌, ◌≤◌, true, false, List, [], ◌∷◌, length, take, drop, slice_get}
use Rattle.yl_tree.specs.declared.name_stack.Level.{Level}
use Rattle.yl_tree.specs.NameSets.{is_above, is_among}

-- the levels of a stack, the innermost first
abbrev pub levels : List Level → List (List ℕ) → List (List (List ℕ))
levels [] names = []
levels (l ∷ ls) names = drop l.begin names ∷ levels ls (take l.begin names)

-- none of the names is greater than the one with this index
abbrev pub IsGreatest : ℕ → List (List ℕ) → Type 0
IsGreatest i names = (q : List ℕ) → is_among names q ≡ true → is_above (slice_get names i) q ≡ false

-- each level begins within the names before those of the levels in it, or at their end, and has the
-- index of its greatest name
abbrev pub AreLevels : List Level → List (List ℕ) → Type 0
AreLevels [] names = Unit {0}
AreLevels (l ∷ ls) names =
    (l.begin ≤ length names) × IsGreatest l.greatest (drop l.begin names) × AreLevels ls (take l.begin names)

-- the level within which n others are; no names if there is none
abbrev pub level_at : ℕ → List (List (List ℕ)) → List (List ℕ)
level_at n [] = []
level_at zero (l ∷ ls) = l
level_at (suc n) (l ∷ ls) = level_at n ls
