-- Meaning: a law: texts have the same order by their bytes as by their code points.
use Rattle.std.specs.Prelude.{ℕ, ◌≡◌, List}
use Rattle.std.specs.Ordering.{nat_cmp}
use Rattle.std.specs.Cmp.Lexicographic.{slice_cmp}
use Rattle.std.specs.Str.{chars, IsUtf8}

abbrev pub OrderOfCodePoints : Type 0
OrderOfCodePoints = (a b : List ℕ) → IsUtf8 a → IsUtf8 b
    → slice_cmp nat_cmp a b ≡ slice_cmp nat_cmp (chars a) (chars b)
