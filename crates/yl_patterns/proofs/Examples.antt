-- Worked rows: what gitignore's documentation says of patterns.
use Rattle.std.proofs.Common.{◌≡◌, refl, Bool, true, false, List, [], ◌∷◌, ℕ, codes}
use Rattle.yl_patterns.specs.Patterns.{PatternValue, Nothing, Bad, is_among, line_of_chars, with_line}

abbrev patterns_of : List PatternValue → List (List ℕ) → List PatternValue
patterns_of ps [] = ps
patterns_of ps (line ∷ lines) = patterns_of (with_line ps (line_of_chars line)) lines

abbrev among : List (List ℕ) → List ℕ → Bool
among lines path = is_among (patterns_of [] lines) path

-- a name lies anywhere, and with what lies below it
name_anywhere : among (codes "*.yaml" ∷ []) (codes "a/b.yaml") ≡ true
name_anywhere = refl

folder_below : among (codes "build/" ∷ []) (codes "a/build/b.yaml") ≡ true
folder_below = refl

folder_itself : among (codes "build/" ∷ []) (codes "a/build") ≡ false
folder_itself = refl

-- a `/` in front or within binds
anchored : among (codes "/a" ∷ []) (codes "b/a") ≡ false
anchored = refl

within : among (codes "doc/frotz" ∷ []) (codes "a/doc/frotz") ≡ false
within = refl

-- no `*` stands for a `/`, and `**` as a part stands for folders
star : among (codes "doc/*.yaml" ∷ []) (codes "doc/b/c.yaml") ≡ false
star = refl

folders : among (codes "a/**/b" ∷ []) (codes "a/x/y/b") ≡ true
folders = refl

no_folders : among (codes "a/**/b" ∷ []) (codes "a/b") ≡ true
no_folders = refl

part_of_a_name : among (codes "a/**/b" ∷ []) (codes "ax/b") ≡ false
part_of_a_name = refl

below : among (codes "abc/**" ∷ []) (codes "abc") ≡ false
below = refl

-- classes
in_class : among (codes "[a-c]" ∷ []) (codes "b") ≡ true
in_class = refl

not_in_class : among (codes "[!a-c]" ∷ []) (codes "b") ≡ false
not_in_class = refl

bracket_in_class : among (codes "[]a]" ∷ []) (codes "]") ≡ true
bracket_in_class = refl

no_class : among (codes "[a" ∷ []) (codes "[a") ≡ true
no_class = refl

-- the last line that fits decides
taken_back : among (codes "*.yaml" ∷ codes "!a.yaml" ∷ []) (codes "a.yaml") ≡ false
taken_back = refl

taken_back_first : among (codes "!a.yaml" ∷ codes "*.yaml" ∷ []) (codes "a.yaml") ≡ true
taken_back_first = refl

-- lines that say nothing, and lines that are none
comment : line_of_chars (codes "#a") ≡ Nothing
comment = refl

slash : line_of_chars (codes "/") ≡ Nothing
slash = refl

backslash : line_of_chars (codes "a\\") ≡ Bad
backslash = refl

backwards : line_of_chars (codes "[c-a]") ≡ Bad
backwards = refl

nothing_taken_back : line_of_chars (codes "!") ≡ Bad
nothing_taken_back = refl
