-- Bridge: what is written of a text, and what is still to be printed and written of it.
use Rattle.std.specs.Prelude.{◌≡◌, ℕ, List, ◌++◌, Option}
use Rattle.std.specs.Io.KnownBytes.{Appends}
use Rattle.yl_scan.specs.Output.{ScanOutput}
use Rattle.yl_scan.specs.Remaining.{remaining_output}
use Rattle.yl_scan.specs.Step.{characters_of}
use Rattle.yl_dump.specs.Printed.{IsPrinted, states_from}
use Rattle.yl_dump.specs.TextScan.{TextScannerValue}

-- of a text a beginning went out, and the rest waits
pub record Leaves (old new : Option (List ℕ)) (text waits : List ℕ) : Type 0 where
  pub out : List ℕ
  pub whole : text ≡ out ++ waits
  pub appends : Appends old new out

-- what the lines report that are still to be read
abbrev pub output_left : TextScannerValue → ScanOutput
output_left s = remaining_output s.line s.stand (characters_of s.rows)

-- what is still to be printed of the states of these lines
abbrev pub states_left : TextScannerValue → List ℕ
states_left s = states_from s.line (output_left s).states

-- what was printed, and then what is printed of what comes after, is what is printed of all
abbrev pub GoesOn : ScanOutput → List ℕ → ScanOutput → Type 0
GoesOn all printed after = (text : List ℕ) → IsPrinted after text → IsPrinted all (printed ++ text)

-- a page grew by what is printed of lines that were read
pub record PrintsOn (old new : List ℕ) (before after : ScanOutput) : Type 0 where
  pub printed : List ℕ
  pub grown : new ≡ old ++ printed
  pub goes_on : GoesOn before printed after

-- a page grew by what is printed of lines that were read, and a beginning of it went out
pub record WritesOn (out_old out_new : Option (List ℕ)) (old new : List ℕ) (before after : ScanOutput) : Type 0 where
  pub printed : List ℕ
  pub leaves : Leaves out_old out_new (old ++ printed) new
  pub goes_on : GoesOn before printed after

-- a page grew by what is printed of an output
pub record PrintsAll (old new : List ℕ) (o : ScanOutput) : Type 0 where
  pub text : List ℕ
  pub printed : IsPrinted o text
  pub grown : new ≡ old ++ text
