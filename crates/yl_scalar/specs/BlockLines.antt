-- Meaning: a block scalar by the lines that it takes: YAML 1.2.2, 8.1.
use Rattle.std.specs.Prelude.{ℕ, not, ◌&&◌, ◌==◌, nat_lt, nat_le, if◌then◌else◌, List, [], ◌∷◌, ◌+◌, take, drop, length, map, Option, Some, None}
use Rattle.std.specs.List.{prefix_len}
use Rattle.yl_text.specs.Character.{is_blank, is_marker, indentation}
use Rattle.yl_scalar.specs.Allowed.{first_bad}
use Rattle.yl_scalar.specs.Reading.{ScalarOutcomeValue, Whole, Refused}
use Rattle.yl_scalar.specs.Header.{indicators, explicit_content, misfit, up_to_misfit}
use Rattle.yl_scalar.specs.PlainLines.{place_at, first_of, unless_refused}
use Rattle.yl_scalar.specs.declared.answer.ScalarFault.TheVariants.{BadHeader, BadIndentation}

-- the number of lines that belong to content that is indented to this column
abbrev pub content_line_count : ℕ → List (List ℕ) → ℕ
content_line_count content [] = 0
content_line_count content (line ∷ lines) =
    if is_blank line then (if content_line_count content lines == 0 then 0 else 1 + content_line_count content lines)
    else if not (is_marker line) && nat_le content (indentation line) then 1 + content_line_count content lines
    else 0

-- the column at which the last line with text ends, or this column if there is none
abbrev pub last_end : ℕ → List (List ℕ) → ℕ
last_end column [] = column
last_end column (line ∷ lines) = last_end (if is_blank line then column else length line) lines

-- the place of the first character in these lines of content that is not allowed; the first of the
-- lines is `down` lines below the header
abbrev pub bad_content : ℕ → List (List ℕ) → Option (ℕ × ℕ)
bad_content down [] = None
bad_content down (line ∷ lines) = first_of (if is_blank line then None else place_at down 0 (first_bad line)) (bad_content (down + 1) lines)

-- the scalar with these `down` lines of content below a header that ends before this column
abbrev pub of_content : ℕ → ℕ → List (List ℕ) → ScalarOutcomeValue
of_content column down lines = unless_refused (bad_content 1 lines) (Whole (record { down = down; column = last_end column lines; value = [] }))

-- the first of these numbers of leading spaces that is greater than the column, after the number of
-- its line
abbrev pub deeper : ℕ → ℕ → List ℕ → Option (ℕ × ℕ)
deeper column place [] = None
deeper column place (n ∷ ns) = if nat_lt column n then Some (place, n) else deeper column (place + 1) ns

abbrev pub unless_deeper : Option (ℕ × ℕ) → ScalarOutcomeValue → ScalarOutcomeValue
unless_deeper None more = more
unless_deeper (Some p) more = Refused BadIndentation p.0 p.1

-- the scalar by its first line with text and the lines below that, if there is one, and by the
-- leading spaces of the blank lines above it
abbrev pub content_below : ℕ → ℕ → List ℕ → (ℕ → ScalarOutcomeValue) → List (List ℕ) → ScalarOutcomeValue
content_below least column spaces more [] = Whole (record { down = 0; column = column; value = [] })
content_below least column spaces more (line ∷ lines) =
    if not (is_marker line) && nat_le least (indentation line) then unless_deeper (deeper (indentation line) 1 spaces) (more (indentation line))
    else Whole (record { down = 0; column = column; value = [] })

abbrev pub below_header : ℕ → ℕ → List (List ℕ) → Option ℕ → ScalarOutcomeValue
below_header least column lines (Some content) = of_content column (content_line_count content lines) (take (content_line_count content lines) lines)
below_header least column lines None =
    content_below least column (map indentation (take (prefix_len is_blank lines) lines))
    (λ content. of_content column (content_line_count content lines) (take (content_line_count content lines) lines))
    (drop (prefix_len is_blank lines) lines)

-- a character that does not fit is a fault; its index counts from this column
abbrev pub unless_misfit : ℕ → Option ℕ → ScalarOutcomeValue → ScalarOutcomeValue
unless_misfit column None more = more
unless_misfit column (Some place) more = Refused BadHeader 0 (column + place)

-- the scalar whose indicator is at the column `at`, with this header after it and the lines below.
-- A character that is not allowed is looked for in the header up to the first one that does not fit
unfoldable pub block_scalar : ℕ → ℕ → List ℕ → List (List ℕ) → ScalarOutcomeValue
block_scalar least at header lines =
    unless_refused (place_at 0 (at + 1) (first_bad (up_to_misfit header)))
    (unless_misfit (at + 1) (misfit header)
    (below_header least (at + 1 + length header) lines (explicit_content least (indicators header).0)))
