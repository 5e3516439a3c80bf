-- Bridge: the phase of a scanner before a row, and what its steps keep in order.
use Rattle.std.specs.Prelude.{◌≡◌, ◌<◌, ◌⊎◌, ℕ, ◌+◌, ◌-◌, ◌^◌, Bool, true, false, List, Option, Some, None}
use Rattle.std.specs.Option.{ForSome}
use Rattle.yl_scalar.specs.declared.answer.ScalarPlace.{ScalarPlace}
use Rattle.yl_scalar.specs.Reader.{extent_at}
use Rattle.yl_scalar.specs.Reading.{Whole}
use Rattle.yl_lexeme.specs.declared.lexeme.Style.{Style}
use Rattle.yl_lexeme.specs.Lexeme.{LexemeValue}
use Rattle.yl_lexeme.specs.Known.{SurroundingsValue}
use Rattle.yl_scan.specs.declared.step.Step.{Step}
use Rattle.yl_scan.specs.declared.phase.Phase as code
use Rattle.yl_scan.specs.declared.phase.Phase.TheVariants.{Between, Within as CodeWithin, Halted as CodeHalted}
use Rattle.yl_row.specs.Step.{scalar_found}
use Rattle.yl_row.specs.ScalarReader.{ScalarReaderValue, rows_in, KeepsSpaces, ColumnBy}
use Rattle.yl_row.specs.Reader.{scalar_reader_value}
use Rattle.yl_lexeme.specs.Known.{context_of}
use Rattle.yl_row.specs.Entries.{LineStateValue, Stopped, lexeme_of, state_of}
use Rattle.yl_scan.specs.Output.{silent_step}
use Rattle.yl_scan.specs.Remaining.{PhaseValue, Fresh, Within, Halted}
use Rattle.yl_scan.specs.Step.{step_value}

-- a scanner. line: the number of rows that were read. stand: the phase before the next one. states:
-- its steps hold states. refused: a call ran out of memory
pub record ScannerValue : Type 0 where
  pub line : ℕ
  pub stand : PhaseValue
  pub states : Bool
  pub refused : Bool

abbrev pub phase_value : {A : Type 0} → Bool → SurroundingsValue → code.Phase A → PhaseValue
phase_value start k Between = Fresh start k
phase_value start k (CodeWithin begun o) = Within begun o.style o.at (scalar_reader_value o.reader) k
phase_value start k (CodeHalted reach) = Halted reach.to_end reach.down

-- what is known of the lexemes before, unless reading has stopped at a fault
abbrev pub surroundings_in : PhaseValue → Option SurroundingsValue
surroundings_in (Fresh start k) = Some k
surroundings_in (Within begun style at m k) = Some k
surroundings_in (Halted to_end down) = None

-- the state of the next row, if it is sound
abbrev pub state_before : PhaseValue → LineStateValue
state_before (Fresh start k) = state_of (context_of k)
state_before (Within begun style at m k) = state_of (context_of k)
state_before (Halted to_end down) = Stopped

-- the line in which the scalar in progress began, if there is one
abbrev pub begun_at : PhaseValue → Option ℕ
begun_at (Fresh start k) = None
begun_at (Within begun style at m k) = Some begun
begun_at (Halted to_end down) = None

-- a scalar in progress began in this line
abbrev pub BeginsAt : ℕ → PhaseValue → Type 0
BeginsAt line (Fresh start k) = Unit {0}
BeginsAt line (Within begun style at m k) = begun ≡ line
BeginsAt line (Halted to_end down) = Unit {0}

-- the lexeme from above that a step reports is the scalar that was in progress
abbrev pub EndsOpen : {A : Type 0} → ℕ → Option ℕ → Step A → Type 0
EndsOpen line begun step = ForSome step.ended (λ e. begun ≡ Some (line - e.ago))

-- a lexeme from above is the scalar that was in progress; and the scalar in progress after the row
-- began in the row, or was in progress before it and the row reports nothing
pub record IsInOrder {A : Type 0} (line : ℕ) (begun behind : Option ℕ) (step : Step A) : Type 0 where
  pub above : EndsOpen line begun step
  pub next : ForSome behind (λ b. b ≡ line) ⊎ (((s : LineStateValue) → step_value line s step ≡ silent_step) × (behind ≡ begun))

abbrev pub is_halted : PhaseValue → Bool
is_halted (Fresh start k) = false
is_halted (Within begun style at m k) = false
is_halted (Halted to_end down) = true

-- a scalar in progress began above this line, its reader has read all rows since, and its columns
-- fit
pub record IsUnderWay (line begun at : ℕ) (m : ScalarReaderValue) : Type 0 where
  pub above : begun < line
  pub rows : rows_in m ≡ line - (begun + 1)
  pub spaces : KeepsSpaces m
  pub columns : ColumnBy (2 ^ 31) m
  pub column : at < 2 ^ 31

abbrev pub IsInStep : {A : Type 0} → ℕ → code.Phase A → Type 0
IsInStep line Between = Unit {0}
IsInStep line (CodeWithin begun o) = IsUnderWay line begun o.at (scalar_reader_value o.reader)
IsInStep line (CodeHalted reach) = Unit {0}

-- the lexeme of a scalar that ends before this position
abbrev pub scalar_lexeme : Style → ℕ → ScalarPlace → List ℕ → LexemeValue
scalar_lexeme style at place value = lexeme_of at (scalar_found style at (Whole (extent_at place value)))
