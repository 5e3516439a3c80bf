-- Bridge: the values of a reader of a scalar and of what it returns.
use Rattle.std.specs.Prelude.{ℕ, List, []}
use Rattle.yl_scalar.specs.declared.answer.ScalarStep.{ScalarStep}
use Rattle.yl_scalar.specs.declared.answer.ScalarOutcome.{ScalarOutcome}
use Rattle.yl_scalar.specs.Reading.{ScalarOutcomeValue, ScalarStepValue}
use Rattle.yl_scalar.specs.Reader.{step_value, outcome_value, plain_reader_value, quoted_reader_value, block_reader_value, plain_rows, quoted_rows, block_rows}
use Rattle.yl_row.specs.declared.reader.ScalarReader.{ScalarReader}
use Rattle.yl_row.specs.declared.reader.ScalarReader.TheVariants.{Plain, Quoted, Block}
use Rattle.yl_row.specs.ScalarReader.{ScalarReaderValue, InPlain, InQuoted, InBlock}

abbrev pub scalar_reader_value : {A : Type 0} → ScalarReader A → ScalarReaderValue
scalar_reader_value (Plain r) = InPlain (plain_reader_value r)
scalar_reader_value (Quoted r) = InQuoted (quoted_reader_value r)
scalar_reader_value (Block r) = InBlock (block_reader_value r)

-- the number of rows below the first one that were read
abbrev pub rows_of : {A : Type 0} → ScalarReader A → ℕ
rows_of (Plain r) = plain_rows r
rows_of (Quoted r) = quoted_rows r
rows_of (Block r) = block_rows r

abbrev pub value_of : {A : Type 0} → ScalarReader A → List ℕ
value_of (Plain r) = (plain_reader_value r).value
value_of (Quoted r) = (quoted_reader_value r).value
value_of (Block r) = []

-- the value of what a reader returns for a row
abbrev pub reader_step_value : {A : Type 0} → ScalarStep → ScalarReader A → ScalarStepValue ScalarReaderValue
reader_step_value line r = step_value line (value_of r) (scalar_reader_value r)

-- the value of what a reader returns at the end of the text
abbrev pub reader_outcome_value : {A : Type 0} → ScalarOutcome → ScalarReader A → ScalarOutcomeValue
reader_outcome_value o r = outcome_value o (value_of r)
