-- Bridge: the part that a quoted scalar has of one line.
use Rattle.std.specs.Prelude.{ℕ, Bool, List, [], Some, None, ◌∷◌, ◌++◌, length, ◌==◌, ◌&&◌, if◌then◌else◌, ◌+◌, ◌≤◌, ◌<◌, ◌^◌}
use Rattle.yl_text.specs.Character.{is_white}
use Rattle.yl_scalar.specs.Quoted.{Stretch, Closes, Breaks, Faulty, stretch}
use Rattle.yl_scalar.specs.declared.quoted.Glyph.{Glyph}
use Rattle.yl_scalar.specs.declared.quoted.Glyph.TheVariants as glyph
use Rattle.yl_scalar.specs.declared.quoted.Part.{Part}
use Rattle.yl_scalar.specs.declared.quoted.Part.TheVariants.{Open, Closed, Faulted}

-- what a line makes of the scalar, by the part and the resulting value
abbrev pub gives : Part → List ℕ → Stretch
gives (Open backslash) text = Breaks text backslash
gives (Closed place) text = Closes text place
gives (Faulted fault place) text = Faulty fault place

-- what a line makes of the scalar, if this glyph comes next after the value `text`, and `after`
-- follows its first character
abbrev pub onward : Bool → Glyph → List ℕ → ℕ → ℕ → List ℕ → Stretch
onward double (glyph.Stands c more) text kept at after = stretch double more (text ++ c ∷ []) (if more == 0 && is_white c then kept else length text + 1) (at + 1) after
onward double glyph.EndsRow text kept at after = Breaks text (Some at)
onward double glyph.Closes text kept at after = Closes text (at + 1)
onward double (glyph.Fails fault) text kept at after = Faulty fault at

-- the index of the part is in a line of this length
abbrev pub IsWithin : ℕ → Part → Type 0
IsWithin n (Open None) = Unit {0}
IsWithin n (Open (Some place)) = place ≤ n
IsWithin n (Closed place) = place ≤ n
IsWithin n (Faulted fault place) = place ≤ n

-- the index of the part, counted from this column, is less than 2^64
abbrev pub FitsBehind : ℕ → Part → Type 0
FitsBehind column (Open None) = Unit {0}
FitsBehind column (Open (Some place)) = column + place < 2 ^ 64
FitsBehind column (Closed place) = column + place < 2 ^ 64
FitsBehind column (Faulted fault place) = column + place < 2 ^ 64
