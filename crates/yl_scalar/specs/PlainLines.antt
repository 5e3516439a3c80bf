-- Meaning: a plain scalar by the lines that it takes: YAML 1.2.2, 7.3.3 and 6.5.
use Rattle.std.specs.Prelude.{ℕ, Bool, true, false, ◌==◌, if◌then◌else◌, List, [], ◌∷◌, ◌++◌, ◌+◌, take, length, Option, Some, None, option_map}
use Rattle.std.specs.List.{prefix_len}
use Rattle.yl_text.specs.Character.{is_white, is_blank, without_front}
use Rattle.yl_scalar.specs.Allowed.{first_bad}
use Rattle.yl_scalar.specs.Reading.{ScalarOutcomeValue, Whole, Refused}
use Rattle.yl_scalar.specs.Folding.{joint}
use Rattle.yl_scalar.specs.Plain.{part, reaches_end, continues}
use Rattle.yl_scalar.specs.declared.answer.ScalarFault.TheVariants.{NotAllowed}

-- the number of lines below its first one that belong to the scalar, if the scalar reaches the end
-- of its first line
abbrev pub scalar_line_count : Bool → ℕ → List (List ℕ) → ℕ
scalar_line_count flow least [] = 0
scalar_line_count flow least (line ∷ lines) =
    if is_blank line then (if scalar_line_count flow least lines == 0 then 0 else 1 + scalar_line_count flow least lines)
    else if continues flow least line
    then (if reaches_end flow true (without_front line) then 1 + scalar_line_count flow least lines else 1)
    else 0

abbrev pub lines_below : Bool → ℕ → List ℕ → List (List ℕ) → ℕ
lines_below flow least first lines = if reaches_end flow false first then scalar_line_count flow least lines else 0

-- the value of these lines, which are below `blanks` blank ones
abbrev pub folded_value : Bool → ℕ → List (List ℕ) → List ℕ
folded_value flow blanks [] = []
folded_value flow blanks (line ∷ lines) =
    if is_blank line then folded_value flow (blanks + 1) lines
    else joint None blanks ++ part flow true (without_front line) ++ folded_value flow 0 lines

-- the column before which the last line with text ends, or this column if there is none
abbrev pub end_column : Bool → ℕ → List (List ℕ) → ℕ
end_column flow column [] = column
end_column flow column (line ∷ lines) =
    end_column flow (if is_blank line then column else prefix_len is_white line + length (part flow true (without_front line))) lines

-- the place `down` lines down, at an index that counts from this column
abbrev pub place_at : ℕ → ℕ → Option ℕ → Option (ℕ × ℕ)
place_at down column = option_map (λ i. (down, column + i))

abbrev pub first_of : Option (ℕ × ℕ) → Option (ℕ × ℕ) → Option (ℕ × ℕ)
first_of None p = p
first_of (Some q) p = Some q

-- the place of the first character of the scalar in these lines that is not allowed; the first of
-- the lines is `down` lines below the first line of the scalar
abbrev pub bad_below : Bool → ℕ → List (List ℕ) → Option (ℕ × ℕ)
bad_below flow down [] = None
bad_below flow down (line ∷ lines) =
    first_of (place_at down (prefix_len is_white line) (first_bad (part flow true (without_front line)))) (bad_below flow (down + 1) lines)

abbrev pub unless_refused : Option (ℕ × ℕ) → ScalarOutcomeValue → ScalarOutcomeValue
unless_refused None whole = whole
unless_refused (Some p) whole = Refused NotAllowed p.0 p.1

-- the scalar that begins at the column `at` and takes these `down` lines below its first one
abbrev pub of_lines : Bool → ℕ → List ℕ → ℕ → List (List ℕ) → ScalarOutcomeValue
of_lines flow at first down lines =
    unless_refused (first_of (place_at 0 at (first_bad (part flow false first))) (bad_below flow 1 lines))
    (Whole (record { down = down; column = end_column flow (at + length (part flow false first)) lines; value = part flow false first ++ folded_value flow 0 lines }))

-- the scalar whose first line has this text from the column `at` on, with the lines below. Outside
-- flow collections, the lines that it takes of these are indented to `least` or more
unfoldable pub plain_scalar : Bool → ℕ → ℕ → List ℕ → List (List ℕ) → ScalarOutcomeValue
plain_scalar flow least at first lines =
    of_lines flow at first (lines_below flow least first lines) (take (lines_below flow least first lines) lines)
