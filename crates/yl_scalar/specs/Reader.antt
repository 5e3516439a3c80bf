-- Bridge: the values of the readers of scalars, and of their results.
use Rattle.std.specs.Prelude.{ℕ, ◌+◌, Bool, List}
use Rattle.yl_scalar.specs.Reading.{Extent, ScalarOutcomeValue, Whole, Refused, ScalarStepValue, GoesOn, EndsIn, EndedAbove, Fails}
use Rattle.yl_scalar.specs.PlainSteps.{PlainReaderValue}
use Rattle.yl_scalar.specs.QuotedSteps.{QuotedReaderValue}
use Rattle.yl_scalar.specs.Block.{BlockReaderValue}
use Rattle.yl_scalar.specs.declared.answer.ScalarPlace.{ScalarPlace}
use Rattle.yl_scalar.specs.declared.answer.ScalarStep.{ScalarStep}
use Rattle.yl_scalar.specs.declared.answer.ScalarStep.TheVariants.{GoesOn as LineGoesOn, EndsIn as LineEndsIn, EndedAbove as LineEndedAbove, Fails as LineFails}
use Rattle.yl_scalar.specs.declared.answer.ScalarOutcome.{ScalarOutcome}
use Rattle.yl_scalar.specs.declared.answer.ScalarOutcome.TheVariants.{Whole as OutcomeWhole, Refused as OutcomeRefused}
use Rattle.yl_scalar.specs.declared.plain.PlainReader.{PlainReader}
use Rattle.yl_scalar.specs.declared.quoted.QuotedReader.{QuotedReader}
use Rattle.yl_scalar.specs.declared.block.BlockReader.{BlockReader}

abbrev pub extent_at : ScalarPlace → List ℕ → Extent
extent_at place value = record { down = place.down; column = place.column; value = value }

-- the value of the result for one line, by the value and the state of the scalar after it
abbrev pub step_value : {S : Type 0} → ScalarStep → List ℕ → S → ScalarStepValue S
step_value LineGoesOn value s = GoesOn s
step_value (LineEndsIn place) value s = EndsIn (extent_at place value)
step_value (LineEndedAbove place) value s = EndedAbove (extent_at place value)
step_value (LineFails fault place) value s = Fails fault place.down place.column

-- the value of the result for a whole scalar that has this value
abbrev pub outcome_value : ScalarOutcome → List ℕ → ScalarOutcomeValue
outcome_value (OutcomeWhole place) value = Whole (extent_at place value)
outcome_value (OutcomeRefused fault place) value = Refused fault place.down place.column

abbrev pub plain_reader_value : {A : Type 0} → PlainReader A → PlainReaderValue
plain_reader_value r = record { flow = r.flow; least = r.least; down = r.down; column = r.column; blanks = r.blanks; value = r.value }

-- the number of lines below the first one that were read
abbrev pub plain_rows : {A : Type 0} → PlainReader A → ℕ
plain_rows r = r.down + r.blanks

-- a call ran out of memory
abbrev pub is_plain_refused : {A : Type 0} → PlainReader A → Bool
is_plain_refused r = r.failed

abbrev pub quoted_reader_value : {A : Type 0} → QuotedReader A → QuotedReaderValue
quoted_reader_value r = record { double = r.double; opening = r.opening; down = r.down; blanks = r.blanks; value = r.value.items; backslash = r.backslash }

-- the number of lines below the first one that were read
abbrev pub quoted_rows : {A : Type 0} → QuotedReader A → ℕ
quoted_rows r = r.down + r.blanks

-- a call ran out of memory
abbrev pub is_quoted_refused : {A : Type 0} → QuotedReader A → Bool
is_quoted_refused r = r.failed

abbrev pub block_reader_value : {A : Type 0} → BlockReader A → BlockReaderValue
block_reader_value r = record { least = r.least; content = r.content; down = r.down; column = r.column; blanks = r.blanks; spaces = r.spaces.items }

-- the number of lines below the first one that were read
abbrev pub block_rows : {A : Type 0} → BlockReader A → ℕ
block_rows r = r.down + r.blanks

-- a call ran out of memory
abbrev pub is_block_refused : {A : Type 0} → BlockReader A → Bool
is_block_refused r = r.failed
