-- Meaning: quoted scalars, read line by line: YAML 1.2.2, 7.3.1, 7.3.2 and 6.5.
use Rattle.std.specs.Prelude.{ℕ, Bool, ◌==◌, if◌then◌else◌, List, [], ◌++◌, ◌+◌, length, Option, None, option_map}
use Rattle.std.specs.List.{prefix_len}
use Rattle.std.specs.Option.{option_map_or}
use Rattle.yl_text.specs.Character.{is_white, is_blank, is_marker, without_front}
use Rattle.yl_scalar.specs.Reading.{ScalarOutcomeValue, Refused, ScalarStepValue, GoesOn, EndsIn, Fails, outcome_of_step, outcome_of_lines}
use Rattle.yl_scalar.specs.Folding.{joint}
use Rattle.yl_scalar.specs.Quoted.{Stretch, Closes, Breaks, Faulty, stretch}
use Rattle.yl_scalar.specs.declared.answer.ScalarFault.TheVariants.{UnclosedQuote, MarkerInQuote, BadEscape}

-- a scalar that continues: whether it is in double quotes, the column of its opening quote, the
-- number of lines from its first line to the last one that is not blank, the number of blank lines
-- since, its value so far, and the column of the backslash that ends the last line that is not
-- blank, if one does
pub record QuotedReaderValue : Type 0 where
  pub double : Bool
  pub opening : ℕ
  pub down : ℕ
  pub blanks : ℕ
  pub value : List ℕ
  pub backslash : Option ℕ

-- the scalar after a line that was read from this column on
abbrev pub quoted_step_behind : QuotedReaderValue → ℕ → Stretch → ScalarStepValue QuotedReaderValue
quoted_step_behind s column (Closes text place) = EndsIn (record { down = s.down; column = column + place; value = text })
quoted_step_behind s column (Breaks text backslash) = GoesOn (record s { value = text; backslash = option_map (λ place. column + place) backslash })
quoted_step_behind s column (Faulty fault place) = Fails fault s.down (column + place)

-- a scalar whose quote opened at this column
abbrev pub quoted_start : Bool → ℕ → QuotedReaderValue
quoted_start double opening = record { double = double; opening = opening; down = 0; blanks = 0; value = []; backslash = None }

-- the scalar's part of its first line, after the quote at the column `opening`
abbrev pub quoted_begin : Bool → ℕ → List ℕ → ScalarStepValue QuotedReaderValue
quoted_begin double opening text = quoted_step_behind (quoted_start double opening) (opening + 1) (stretch double 0 [] 0 0 text)

-- the scalar with the text that the break above this line gives, together with the blank lines
-- after that break
abbrev pub with_break : QuotedReaderValue → QuotedReaderValue
with_break s = record s { down = s.down + s.blanks + 1; blanks = 0; value = s.value ++ joint s.backslash s.blanks }

abbrev pub quoted_step : QuotedReaderValue → List ℕ → ScalarStepValue QuotedReaderValue
quoted_step s line =
    if is_marker line then Fails MarkerInQuote (s.down + s.blanks + 1) 0
    else if is_blank line then GoesOn (record s { blanks = s.blanks + 1 })
    else quoted_step_behind (with_break s) (prefix_len is_white line)
    (stretch s.double 0 (with_break s).value (length (with_break s).value) 0 (without_front line))

-- the text ends: right after a line that ends in a backslash, or elsewhere
abbrev pub quoted_finish : QuotedReaderValue → ScalarOutcomeValue
quoted_finish s =
    option_map_or (λ column. Refused BadEscape s.down column) (if s.blanks == 0 then s.backslash else None)
    (Refused UnclosedQuote 0 s.opening)

-- the scalar whose quote opens at the column `opening`, with the text after the quote and the lines
-- below
abbrev pub quoted : Bool → ℕ → List ℕ → List (List ℕ) → ScalarOutcomeValue
quoted double opening text lines = outcome_of_step (λ s. outcome_of_lines quoted_step quoted_finish s lines) (quoted_begin double opening text)
