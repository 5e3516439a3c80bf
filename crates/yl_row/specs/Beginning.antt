-- Bridge: what the scanner finds at a position, and what the rows below make of it.
use Rattle.std.specs.Prelude.{◌≡◌, ◌<◌, ◌^◌, ℕ, List, Option, Some, None}
use Rattle.std.specs.Str.{encode_utf8_all}
use Rattle.yl_scalar.specs.Reading.{ScalarStepValue, GoesOn, EndsIn, EndedAbove, Fails}
use Rattle.yl_row.specs.declared.found.FoundLexeme as code
use Rattle.yl_row.specs.declared.found.Beginning.{Beginning}
use Rattle.yl_row.specs.declared.found.Beginning.TheVariants.{Ended, Open}
use Rattle.yl_row.specs.Step.{FoundLexemeValue, found_in_row}
use Rattle.yl_row.specs.ScalarReader.{open_found}
use Rattle.yl_row.specs.Reader.{scalar_reader_value}
use Rattle.yl_row.specs.Begins.{Rests}

abbrev pub found_lexeme_value : {A : Type 0} → code.FoundLexeme A → FoundLexemeValue
found_lexeme_value f = found_in_row f.kind f.column (encode_utf8_all f.value) f.fault

abbrev pub beginning_value : {A : Type 0} → ℕ → List (List ℕ) → Beginning A → FoundLexemeValue
beginning_value at rows (Ended f) = found_lexeme_value f
beginning_value at rows (Open style r) = open_found style at (scalar_reader_value r) rows

-- the value of a lexeme, if one was found
abbrev pub found_option : {A : Type 0} → Option (code.FoundLexeme A) → Option FoundLexemeValue
found_option None = None
found_option (Some f) = Some (found_lexeme_value f)

-- if the scalar ends, it does so in its first row, before a column that fits
abbrev pub EndsHere : {S : Type 0} → ScalarStepValue S → Type 0
EndsHere (GoesOn s) = Unit {0}
EndsHere (EndsIn e) = (e.down ≡ 0) × (e.column < 2 ^ 32)
EndsHere (EndedAbove e) = (e.down ≡ 0) × (e.column < 2 ^ 32)
EndsHere (Fails fault down column) = Unit {0}

-- a scalar that may go on below begins at this column, with this text from there on, and its reader
-- has read that row
abbrev pub BeginningRests : {A : Type 0} → ℕ → List ℕ → Beginning A → Type 0
BeginningRests at text (Ended f) = Unit {0}
BeginningRests at text (Open style r) = Rests at text (scalar_reader_value r)
