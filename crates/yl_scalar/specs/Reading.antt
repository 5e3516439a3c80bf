-- Meaning: what the lines of a scalar make of it, from its first line on: its extent, or a fault.
use Rattle.std.specs.Prelude.{ℕ, ◌+◌, List, [], ◌∷◌, Option}
use Rattle.std.specs.Option.{option_map_or}
use Rattle.yl_scalar.specs.declared.answer.ScalarFault.{ScalarFault}
use Rattle.yl_scalar.specs.declared.answer.ScalarFault.TheVariants.{NotAllowed}

-- the place before which a scalar ends, `down` lines below its first one, and its value
pub record Extent : Type 0 where
  pub down : ℕ
  pub column : ℕ
  pub value : List ℕ

-- the extent of a scalar, or a fault and its place, `down` lines below the scalar's first one
pub data ScalarOutcomeValue : Type 0 where
  Whole : (e : Extent) → ScalarOutcomeValue
  Refused : (fault : ScalarFault) (down column : ℕ) → ScalarOutcomeValue

-- what a line makes of a scalar: the scalar may continue below, in this state; or it ends in the
-- line; or it ended above; or there is a fault
pub data ScalarStepValue (S : Type 0) : Type 0 where
  GoesOn : (open_scalar : S) → ScalarStepValue S
  EndsIn : (e : Extent) → ScalarStepValue S
  EndedAbove : (e : Extent) → ScalarStepValue S
  Fails : (fault : ScalarFault) (down column : ℕ) → ScalarStepValue S

-- the result in the end, where `below` returns what the lines below make of a scalar that may
-- continue
abbrev pub outcome_of_step : {S : Type 0} → (S → ScalarOutcomeValue) → ScalarStepValue S → ScalarOutcomeValue
outcome_of_step below (GoesOn s) = below s
outcome_of_step below (EndsIn e) = Whole e
outcome_of_step below (EndedAbove e) = Whole e
outcome_of_step below (Fails fault down column) = Refused fault down column

-- a scalar that may continue, read line by line; `finish` returns what the end of the text makes of
-- it
abbrev pub outcome_of_lines : {S : Type 0} → (S → List ℕ → ScalarStepValue S) → (S → ScalarOutcomeValue) → S → List (List ℕ) → ScalarOutcomeValue
outcome_of_lines step finish s [] = finish s
outcome_of_lines step finish s (line ∷ lines) = outcome_of_step (λ s. outcome_of_lines step finish s lines) (step s line)

-- a character that is not allowed is a fault; its index counts from this column. Without one, the
-- result is `more`
abbrev pub unless_bad : {S : Type 0} → Option ℕ → ℕ → ℕ → ScalarStepValue S → ScalarStepValue S
unless_bad bad down column more = option_map_or (λ i. Fails NotAllowed down (column + i)) bad more
