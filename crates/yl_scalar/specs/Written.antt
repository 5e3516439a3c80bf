-- Meaning: a text as a quoted scalar in one line: YAML 1.2.2, 7.3.1 and 7.3.2.
use Rattle.std.specs.Prelude.{ℕ, Bool, true, false, ◌==◌, if◌then◌else◌, List, [], ◌∷◌, ◌++◌, ◌+◌, length, slice_index, ◌≡◌}
use Rattle.std.specs.List.{list_all}
use Prim.Native.Char.{code}
use Rattle.yl_scalar.specs.Allowed.{is_quoted_character}
use Rattle.yl_scalar.specs.Reading.{Whole}
use Rattle.yl_scalar.specs.Quoted.{quote}
use Rattle.yl_scalar.specs.QuotedSteps.{quoted}

-- a character in double quotes: a quote and a backslash are written after a backslash
abbrev pub in_double : ℕ → List ℕ
in_double c = if c == code "\"" then code "\\" ∷ code "\"" ∷ [] else if c == code "\\" then code "\\" ∷ code "\\" ∷ [] else c ∷ []

-- a character in single quotes: a quote is doubled
abbrev pub in_single : ℕ → List ℕ
in_single c = if c == code "'" then code "'" ∷ code "'" ∷ [] else c ∷ []

abbrev pub quoted_text : Bool → List ℕ → List ℕ
quoted_text double [] = []
quoted_text double (c ∷ cs) = (if double then in_double c else in_single c) ++ quoted_text double cs

-- a text that is written in quotes is read back
abbrev pub QuotedLaw : Type 0
QuotedLaw = (double : Bool) (opening : ℕ) (text after : List ℕ) (lines : List (List ℕ)) →
    list_all is_quoted_character text ≡ true → (slice_index after 0 == code "'") ≡ false →
    quoted double opening (quoted_text double text ++ quote double ∷ after) lines
    ≡ Whole (record { down = 0; column = opening + 1 + (length (quoted_text double text) + 1); value = text })
