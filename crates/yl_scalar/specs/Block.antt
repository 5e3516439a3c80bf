-- Bridge: block scalars, read line by line: YAML 1.2.2, 8.1. The values of their lines are not
-- read.
use Rattle.std.specs.Prelude.{ℕ, nat_le, if◌then◌else◌, List, [], ◌∷◌, ◌++◌, ◌+◌, take, length, Option, Some, None}
use Rattle.yl_text.specs.Character.{is_blank, is_marker, indentation}
use Rattle.yl_scalar.specs.Allowed.{first_bad}
use Rattle.yl_scalar.specs.Header.{indicators, explicit_content, misfit}
use Rattle.yl_scalar.specs.BlockLines.{deeper}
use Rattle.yl_scalar.specs.Reading.{Extent, ScalarOutcomeValue, Whole, ScalarStepValue, GoesOn, EndedAbove, Fails, outcome_of_step, outcome_of_lines, unless_bad}
use Rattle.yl_scalar.specs.declared.answer.ScalarFault.TheVariants.{BadHeader, BadIndentation}

-- a scalar that may continue: the least indentation of its content, the column of its content, if
-- that is known, the place at which it ends so far, the number of blank lines since, and the number
-- of leading spaces of each blank line before the column was known
pub record BlockReaderValue : Type 0 where
  pub least : ℕ
  pub content : Option ℕ
  pub down : ℕ
  pub column : ℕ
  pub blanks : ℕ
  pub spaces : List ℕ

abbrev pub block_extent : BlockReaderValue → Extent
block_extent s = record { down = s.down; column = s.column; value = [] }

-- after a header that ends before this column
abbrev pub header_end : ℕ → ℕ → ℕ → BlockReaderValue
header_end least digit column = record { least = least; content = explicit_content least digit; down = 0; column = column; blanks = 0; spaces = [] }

-- the header, by the index of the first character that does not fit
abbrev pub header_read : ℕ → ℕ → List ℕ → Option ℕ → ScalarStepValue BlockReaderValue
header_read least column header None =
    unless_bad (first_bad header) 0 column (GoesOn (header_end least (indicators header).0 (column + length header)))
header_read least column header (Some place) =
    unless_bad (first_bad (take (place + 1) header)) 0 column (Fails BadHeader 0 (column + place))

-- the scalar's header, after the indicator at the column `at`; `least` is n + 1
abbrev pub block_begin : ℕ → ℕ → List ℕ → ScalarStepValue BlockReaderValue
block_begin least at header = header_read least (at + 1) header (misfit header)

-- the leading spaces of a blank line are recorded until the content column is known
abbrev pub spaces_with : Option ℕ → List ℕ → List ℕ → List ℕ
spaces_with None spaces line = spaces ++ indentation line ∷ []
spaces_with (Some content) spaces line = spaces

-- a line of content, which is indented to this column
abbrev pub with_content : BlockReaderValue → ℕ → List ℕ → ScalarStepValue BlockReaderValue
with_content s content line =
    unless_bad (first_bad line) (s.down + s.blanks + 1) 0
    (GoesOn (record { least = s.least; content = Some content; down = s.down + s.blanks + 1; column = length line; blanks = 0; spaces = s.spaces }))

-- the first line with text gives the column, and no blank line above it may have more leading
-- spaces
abbrev pub unless_too_deep : Option (ℕ × ℕ) → ScalarStepValue BlockReaderValue → ScalarStepValue BlockReaderValue
unless_too_deep None more = more
unless_too_deep (Some bad) more = Fails BadIndentation bad.0 bad.1

-- a line that is neither blank nor a marker
abbrev pub text_line : Option ℕ → BlockReaderValue → List ℕ → ScalarStepValue BlockReaderValue
text_line (Some content) s line =
    if nat_le content (indentation line) then with_content s content line else EndedAbove (block_extent s)
text_line None s line =
    if nat_le s.least (indentation line)
    then unless_too_deep (deeper (indentation line) 1 s.spaces) (with_content s (indentation line) line)
    else EndedAbove (block_extent s)

abbrev pub block_step : BlockReaderValue → List ℕ → ScalarStepValue BlockReaderValue
block_step s line =
    if is_blank line then GoesOn (record s { blanks = s.blanks + 1; spaces = spaces_with s.content s.spaces line })
    else if is_marker line then EndedAbove (block_extent s)
    else text_line s.content s line

-- a text may end after it
abbrev pub block_finish : BlockReaderValue → ScalarOutcomeValue
block_finish s = Whole (block_extent s)

-- the scalar whose indicator is at the column `at`, with the header after it and the lines below
abbrev pub block : ℕ → ℕ → List ℕ → List (List ℕ) → ScalarOutcomeValue
block least at header lines = outcome_of_step (λ s. outcome_of_lines block_step block_finish s lines) (block_begin least at header)
