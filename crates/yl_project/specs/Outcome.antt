-- Meaning: what bytes say as a project's configuration, or why they are refused. First they may be too large, then they may be no UTF-8;
-- then the text's first fault is told, if it has one; then the first in the text of what does not fit.
use Rattle.std.specs.Prelude.{◌≡◌, ◌<◌, ◌≤◌, ℕ, List, [], ◌∷◌, ◌++◌, length, Option, Some, None, Result, Ok, Err, is_some, unwrap_or}
use Rattle.std.specs.Str.{IsUtf8}
use Rattle.yl_text.specs.declared.position.Pos.{Pos}
use Rattle.yl_text.specs.declared.TheConstants.{MAX_BYTES}
use Rattle.yl_text.specs.Fault.{IsText}
use Rattle.yl_text.specs.Lines.{RowValue, lines_of}
use Rattle.yl_events.specs.Event.{EventValue}
use Rattle.yl_scan.specs.Step.{characters_of}
use Rattle.yl_config.specs.declared.fault.ConfigFault.{ConfigFault}
use Rattle.yl_config.specs.declared.fault.ConfigFault.TheVariants as fault
use Rattle.yl_config.specs.declared.misfit.Misfit.{Misfit}
use Rattle.yl_config.specs.Document.{next_misfits, root_of}
use Rattle.yl_config.specs.Faults.{fault_of_misfit, place_from_one}
use Rattle.yl_config.specs.Misfits.{earliest}
use Rattle.yl_config.specs.Outcome.{from_own}
use Rattle.yl_config.specs.Syntax.{place_behind, text_fault}
use Rattle.yl_config.specs.TextDocuments.{BuiltDocumentValue, AreBuilt, documents_of}
use Rattle.yl_config.specs.TextReading.{TextReading, reading_of}
use Rattle.yl_project.specs.Misfits.{root_misfits}
use Rattle.yl_project.specs.Named.{NamedValue, named_of}
use Rattle.yl_project.specs.Said.{ProjectValue, said_over}
use Rattle.yl_project.specs.Texts.{with_lines}

-- ---- of a document

-- what its events say, and the first of what does not fit; of the next document its place is known
pub record Judge (A : Type 0) : Type 0 where
  pub says : List EventValue → A
  pub first : List EventValue → Option Pos → Option Misfit

-- the first misfit, if there is one; else what is said
abbrev pub told : {A : Type 0} → A → Option Misfit → Result A ConfigFault
told said None = Ok said
told said (Some misfit) = Err (fault_of_misfit misfit)

abbrev pub told_of : {A : Type 0} → Judge A → List EventValue → Option Pos → Result A ConfigFault
told_of judge es next = told (judge.says es) (judge.first es next)

-- the events of the first document
abbrev pub own_events : List BuiltDocumentValue → List EventValue
own_events [] = []
own_events (d ∷ ds) = d.events

-- where the second one begins, if there is one
abbrev pub next_place : List BuiltDocumentValue → Option Pos
next_place [] = None
next_place (d ∷ ds) = place_behind None (from_own ds)

abbrev pub told_own : {A : Type 0} → Judge A → List BuiltDocumentValue → Result A ConfigFault
told_own judge ds = told_of judge (own_events ds) (next_place ds)

-- ---- of a text

abbrev pub told_unless : {A : Type 0} → Option Pos → Result A ConfigFault → Result A ConfigFault
told_unless None answer = answer
told_unless (Some place) answer = Err (fault.Syntax (place_from_one place))

-- this is said of a text that is read to this
pub record Says {A : Type 0} (judge : Judge A) (r : TextReading) (answer : Result A ConfigFault) : Type 0 where
  pub documents : List BuiltDocumentValue
  pub built : AreBuilt (documents_of r.lexemes) documents
  pub judged : answer ≡ told_unless (text_fault r documents) (told_own judge (from_own documents))

-- ---- of bytes, by the judge of a document in these lines

abbrev pub SaysOfText : {A : Type 0} → (List RowValue → Judge A) → List ℕ → Result A ConfigFault → Type 0
SaysOfText judge t answer = IsText t × Says (judge (lines_of t)) (reading_of (characters_of (lines_of t))) answer

-- `Memory` alone may come or not
abbrev pub IsToldOf : {A : Type 0} → (List RowValue → Judge A) → List ℕ → Result A ConfigFault → Type 0
IsToldOf judge t (Err fault.TooLarge) = MAX_BYTES < length t
IsToldOf judge t (Err fault.NotUtf8) = (length t ≤ MAX_BYTES) × ¬ (IsUtf8 t)
IsToldOf judge t (Err fault.Memory) = IsText t
IsToldOf judge t answer = SaysOfText judge t answer

-- ---- the files that a configuration names; nothing is a misfit

abbrev pub naming : List RowValue → Judge NamedValue
naming lines = record { says = λ es. named_of (root_of es); first = λ es next. None }

abbrev pub IsNamedIn : List ℕ → Result NamedValue ConfigFault → Type 0
IsNamedIn t answer = IsToldOf naming t answer

-- ---- what a configuration says over what is extended, where these lines stand in the files that it names

unfoldable pub projecting : ProjectValue → List RowValue → List RowValue → Judge ProjectValue
projecting base in_files lines =
    let files = with_lines [] in_files in
    record {
      says = λ es. said_over base (unwrap_or files []) lines (root_of es);
      first = λ es next. earliest None (root_misfits lines (is_some files) (root_of es) ++ next_misfits next);
    }

abbrev pub IsProjectOver : ProjectValue → List ℕ → List ℕ → Result ProjectValue ConfigFault → Type 0
IsProjectOver base ignore_lines t answer = IsToldOf (projecting base (lines_of ignore_lines)) t answer
