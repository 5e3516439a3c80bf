-- Bridge: the reader of a scalar of any style that may go on in the row below.
use Rattle.std.specs.Prelude.{ℕ, ◌+◌, ◌≤◌, List, length}
use Rattle.yl_scalar.specs.Reading.{ScalarOutcomeValue, ScalarStepValue, GoesOn, EndsIn, EndedAbove, Fails, outcome_of_lines}
use Rattle.yl_scalar.specs.PlainSteps.{PlainReaderValue, plain_step, plain_finish}
use Rattle.yl_scalar.specs.QuotedSteps.{QuotedReaderValue, quoted_step, quoted_finish}
use Rattle.yl_scalar.specs.Block.{BlockReaderValue, block_step, block_finish}
use Rattle.yl_lexeme.specs.declared.lexeme.Style.{Style}
use Rattle.yl_row.specs.Step.{FoundLexemeValue, scalar_found}

pub data ScalarReaderValue : Type 0 where
  InPlain : (s : PlainReaderValue) → ScalarReaderValue
  InQuoted : (s : QuotedReaderValue) → ScalarReaderValue
  InBlock : (s : BlockReaderValue) → ScalarReaderValue

-- a step whose state is mapped
abbrev pub map_step : {S T : Type 0} → (S → T) → ScalarStepValue S → ScalarStepValue T
map_step f (GoesOn s) = GoesOn (f s)
map_step f (EndsIn e) = EndsIn e
map_step f (EndedAbove e) = EndedAbove e
map_step f (Fails fault down column) = Fails fault down column

-- what the next row makes of the scalar
abbrev pub reader_step : ScalarReaderValue → List ℕ → ScalarStepValue ScalarReaderValue
reader_step (InPlain s) row = map_step InPlain (plain_step s row)
reader_step (InQuoted s) row = map_step InQuoted (quoted_step s row)
reader_step (InBlock s) row = map_step InBlock (block_step s row)

-- what the end of the text makes of the scalar
abbrev pub reader_finish : ScalarReaderValue → ScalarOutcomeValue
reader_finish (InPlain s) = plain_finish s
reader_finish (InQuoted s) = quoted_finish s
reader_finish (InBlock s) = block_finish s

-- the scalar that a reader in this state and these rows below give
abbrev pub open_found : Style → ℕ → ScalarReaderValue → List (List ℕ) → FoundLexemeValue
open_found style at m rows = scalar_found style at (outcome_of_lines reader_step reader_finish m rows)

-- the number of rows below the first one that were read
abbrev pub rows_in : ScalarReaderValue → ℕ
rows_in (InPlain s) = s.down + s.blanks
rows_in (InQuoted s) = s.down + s.blanks
rows_in (InBlock s) = s.down + s.blanks

-- the spaces are kept of no more blank rows than the rows below the first one that were read
abbrev pub KeepsSpaces : ScalarReaderValue → Type 0
KeepsSpaces (InPlain s) = Unit {0}
KeepsSpaces (InQuoted s) = Unit {0}
KeepsSpaces (InBlock s) = length s.spaces ≤ s.down + s.blanks

-- the column of the end so far is at most n; for a quoted scalar no end is known
abbrev pub ColumnBy : ℕ → ScalarReaderValue → Type 0
ColumnBy n (InPlain s) = s.column ≤ n
ColumnBy n (InQuoted s) = Unit {0}
ColumnBy n (InBlock s) = s.column ≤ n

-- after a row, the column of the end so far, or of the end, is at most n
abbrev pub StepBy : ℕ → ScalarStepValue ScalarReaderValue → Type 0
StepBy n (GoesOn m) = ColumnBy n m
StepBy n (EndsIn e) = e.column ≤ n
StepBy n (EndedAbove e) = e.column ≤ n
StepBy n (Fails fault down column) = Unit {0}
