-- Meaning: the result of reading bytes as a configuration: the settings, or the fault. The bytes
-- may be too large; else they may not be UTF-8; else the text may have a fault; else it may have a
-- misfit.
use Rattle.std.specs.Prelude.{◌≡◌, ◌≢◌, ◌<◌, ◌≤◌, ℕ, Bool, false, if◌then◌else◌, List, [], ◌∷◌, length, Option, Some, None, Result, Ok, Err}
use Rattle.std.specs.Str.{IsUtf8}
use Rattle.yl_text.specs.declared.position.Pos.{Pos}
use Rattle.yl_text.specs.declared.TheConstants.{MAX_BYTES}
use Rattle.yl_text.specs.Fault.{IsText}
use Rattle.yl_text.specs.Lines.{lines_of}
use Rattle.yl_lexeme.specs.Lexeme.{LexemeValue}
use Rattle.yl_events.specs.Documents.{is_document_end}
use Rattle.yl_events.specs.Event.{EventValue}
use Rattle.yl_scan.specs.Step.{characters_of}
use Rattle.yl_config.specs.declared.fault.ConfigFault.{ConfigFault}
use Rattle.yl_config.specs.declared.fault.ConfigFault.TheVariants as fault
use Rattle.yl_config.specs.Document.{document_judgement}
use Rattle.yl_config.specs.Faults.{place_from_one}
use Rattle.yl_config.specs.Settings.{Settings}
use Rattle.yl_config.specs.Syntax.{place_behind, text_fault}
use Rattle.yl_config.specs.TextDocuments.{BuiltDocumentValue, AreBuilt, documents_of}
use Rattle.yl_config.specs.TextReading.{TextReading, reading_of}

-- ---- the document of a configuration

-- a marker `...` alone is no document of a configuration
abbrev pub is_lone_end : List LexemeValue → Bool
is_lone_end (x ∷ []) = is_document_end x.kind
is_lone_end _ = false

-- the documents from the first one that is a document of a configuration on
abbrev pub from_own : List BuiltDocumentValue → List BuiltDocumentValue
from_own [] = []
from_own (d ∷ ds) = if is_lone_end d.lexemes then from_own ds else d ∷ ds

-- the first document is judged; a second one is a misfit
abbrev pub judged_own : List BuiltDocumentValue → Result Settings ConfigFault
judged_own [] = document_judgement [] None
judged_own (d ∷ ds) = document_judgement d.events (place_behind None (from_own ds))

-- ---- a text

abbrev pub judged_unless : Option Pos → Result Settings ConfigFault → Result Settings ConfigFault
judged_unless None answer = answer
judged_unless (Some place) answer = Err (fault.Syntax (place_from_one place))

-- the result for a text with these documents
abbrev pub judged_text : TextReading → List BuiltDocumentValue → Result Settings ConfigFault
judged_text r ds = judged_unless (text_fault r ds) (judged_own (from_own ds))

-- the result for a text with this reading
pub record Says (r : TextReading) (answer : Result Settings ConfigFault) : Type 0 where
  pub documents : List BuiltDocumentValue
  pub built : AreBuilt (documents_of r.lexemes) documents
  pub judged : answer ≡ judged_text r documents

-- ---- bytes

-- `Memory` is always possible if the bytes are a text
abbrev pub IsConfigOf : List ℕ → Result Settings ConfigFault → Type 0
IsConfigOf t (Err fault.TooLarge) = MAX_BYTES < length t
IsConfigOf t (Err fault.NotUtf8) = (length t ≤ MAX_BYTES) × ¬ (IsUtf8 t)
IsConfigOf t (Err fault.Memory) = IsText t
IsConfigOf t answer = IsText t × Says (reading_of (characters_of (lines_of t))) answer

-- the result for some bytes is unique, unless it is `Memory`
abbrev pub OneAnswer : Type 0
OneAnswer = (t : List ℕ) (a b : Result Settings ConfigFault) → a ≢ Err fault.Memory → b ≢ Err fault.Memory → IsConfigOf t a → IsConfigOf t b → a ≡ b
