-- Meaning: what a document gives: its events, or its parse fault.
use Rattle.std.specs.Prelude.{◌≡◌, List, [], Option, Some, None}
use Rattle.yl_lexeme.specs.Lexeme.{LexemeValue}
use Rattle.yl_events.specs.declared.fault.PlacedParseFault.{PlacedParseFault}
use Rattle.yl_events.specs.Event.{EventValue, AreEvents}
use Rattle.yl_events.specs.Derives.{HasFaultAt}
use Rattle.yl_events.specs.Faults.{fault_of}
use Rattle.yl_marks.specs.Marks.{symbols_of_lexemes}

-- f is the fault of the document: it is at the first lexeme with which no beginning of a derivation
-- is left, or after all lexemes
pub record IsFaultOf (xs : List LexemeValue) (f : PlacedParseFault) : Type 0 where
  pub place : HasFaultAt (symbols_of_lexemes xs) f.place
  pub kind : f.kind ≡ fault_of (symbols_of_lexemes xs) f.place

-- the document gives the events of its derivation and no fault, or its fault and no events
abbrev pub Builds : List LexemeValue → List EventValue → Option PlacedParseFault → Type 0
Builds xs es None = AreEvents xs es
Builds xs es (Some f) = IsFaultOf xs f × (es ≡ [])
