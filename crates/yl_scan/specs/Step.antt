-- Meaning: what a step of a scanner reports of its row, and of what began in the rows above.
use Rattle.std.specs.Prelude.{◌≡◌, ◌≤◌, ◌<◌, ℕ, ◌-◌, Bool, true, false, List, [], map, Option, Some, None, option_map, option_to_list}
use Rattle.std.specs.Option.{ForSome}
use Rattle.std.specs.Str.{chars}
use Rattle.yl_text.specs.Lines.{RowValue}
use Rattle.yl_lexeme.specs.Lexeme.{LexemeValue}
use Rattle.yl_row.specs.declared.fault.PlacedScanFault.{PlacedScanFault}
use Rattle.yl_scan.specs.declared.step.LexemeAbove.{LexemeAbove}
use Rattle.yl_scan.specs.declared.step.FaultAbove.{FaultAbove}
use Rattle.yl_scan.specs.declared.step.Step.{Step}
use Rattle.yl_scan.specs.declared.step.Soundness.{Soundness}
use Rattle.yl_scan.specs.declared.step.Soundness.TheVariants.{NotSound, Sound, Stopped as SoundStopped}
use Rattle.yl_row.specs.Entries.{LineStateValue, Stopped}
use Rattle.yl_scan.specs.Output.{ScanOutput, StepValue}

-- a lexeme or a fault that began so many rows above this line, with its own line
abbrev pub lexeme_above_at : {A : Type 0} → ℕ → LexemeAbove A → ℕ × LexemeValue
lexeme_above_at line e = (line - e.ago, e.lexeme)

abbrev pub fault_above_at : ℕ → FaultAbove → ℕ × PlacedScanFault
fault_above_at line f = (line - f.ago, f.fault)

-- the state of a row: s is the state at its start, which it has if it is sound
abbrev pub state_by : LineStateValue → Soundness → Option LineStateValue
state_by s NotSound = None
state_by s Sound = Some s
state_by s SoundStopped = Some Stopped

-- the state of a row, or none if states are not wanted
abbrev pub state_for : Option LineStateValue → Soundness → Option LineStateValue
state_for None _ = None
state_for (Some s) sound = state_by s sound

abbrev pub is_sound : Soundness → Bool
is_sound NotSound = false
is_sound Sound = true
is_sound SoundStopped = true

-- what a step reports of the row at a line, where s is the state at the start of the row
abbrev pub step_value : {A : Type 0} → ℕ → LineStateValue → Step A → StepValue
step_value line s step = record {
  above = option_map (lexeme_above_at line) step.ended;
  lexemes = step.lexemes.items;
  comment = step.comment;
  state = state_by s step.sound;
  fault = option_map (fault_above_at line) step.failed;
}

-- a lexeme of a step that began above this line is of a line of the text, and a fault is of such a
-- line or of this one
abbrev pub IsAbove : {A : Type 0} → ℕ → LexemeAbove A → Type 0
IsAbove line e = (0 < e.ago) × (e.ago ≤ line)

abbrev pub IsNotBelow : ℕ → FaultAbove → Type 0
IsNotBelow line f = f.ago ≤ line

abbrev pub BeginsInText : {A : Type 0} → ℕ → Step A → Type 0
BeginsInText line s = ForSome s.ended (IsAbove line) × ForSome s.failed (IsNotBelow line)

-- a fault, if there is one, is in a lexeme that begins in the row itself
abbrev pub FailsHere : {A : Type 0} → Step A → Type 0
FailsHere s = ForSome s.failed (λ f. f.ago ≡ 0)

-- what the end of the text reports, which belongs to no row
abbrev pub at_end : StepValue → ScanOutput
at_end t = record { lexemes = option_to_list t.above; comments = []; states = []; fault = t.fault }

-- the characters of the rows
abbrev pub characters_of : List RowValue → List (List ℕ)
characters_of rows = map (λ r. chars r.text) rows
