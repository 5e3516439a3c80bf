-- Meaning: patterns of paths. Each stands in a line; the last one that a path fits decides.
use Rattle.std.specs.Prelude.{ℕ, ◌==◌, Bool, true, false, not, ◌&&◌, ◌||◌, if◌then◌else◌, List, [], ◌∷◌, ◌++◌, length, drop, Option, Some, None}
use Rattle.std.specs.Str.{chars, trim}
use Prim.Native.Char.{code}
use Rattle.yl_patterns.specs.declared.item.Item.{Item}
use Rattle.yl_patterns.specs.Fits.{items_fit}
use Rattle.yl_patterns.specs.Reading.{has, pattern_items}

-- the items of a line's pattern, and whether it takes back what earlier ones say
pub record PatternValue : Type 0 where
  pub takes_back : Bool
  pub items : List Item

-- what a line is
pub data Line : Type 0 where
  Nothing : Line
  Bad : Line
  Says : PatternValue → Line

abbrev pub said : Bool → Option (List Item) → Line
said takes_back None = Bad
said takes_back (Some items) = Says (record { takes_back = takes_back; items = items })

-- what the characters of a line are, without white space at both ends
abbrev pub line_of_chars : List ℕ → Line
line_of_chars cs =
    if (length cs == 0) || has cs 0 (code "#") || ((length cs == 1) && has cs 0 (code "/")) then Nothing else
    if has cs 0 (code "!") then said true (pattern_items (drop 1 cs)) else said false (pattern_items cs)

abbrev pub line_of : List ℕ → Line
line_of line = line_of_chars (chars (trim line))

-- patterns with a line after them
abbrev pub with_line : List PatternValue → Line → List PatternValue
with_line ps Nothing = ps
with_line ps Bad = ps
with_line ps (Says p) = ps ++ p ∷ []

-- whether a path is among these, where earlier patterns have answered so
abbrev pub answer_after : Bool → List PatternValue → List ℕ → Bool
answer_after before [] path = before
answer_after before (p ∷ ps) path = answer_after (if items_fit p.items path then not p.takes_back else before) ps path

abbrev pub is_among : List PatternValue → List ℕ → Bool
is_among ps path = answer_after false ps path
