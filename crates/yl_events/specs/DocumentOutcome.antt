-- Bridge: the outcome of a document while its lexemes are read: its events or its fault, by the
-- symbols from some place on and the events before them.
use Rattle.std.specs.Prelude.{ℕ, ◌≡◌, ◌+◌, List, [], ◌∷◌, ◌++◌, Option, Some, None, reverse}
use Rattle.yl_marks.specs.declared.symbol.Symbol.{Symbol}
use Rattle.yl_events.specs.declared.symbol.Goal.{Goal}
use Rattle.yl_events.specs.declared.symbol.Outline.{Outline}
use Rattle.yl_events.specs.declared.symbol.Shape.TheVariants.{DocumentEnd}
use Rattle.yl_events.specs.declared.fault.PlacedParseFault.{PlacedParseFault}
use Rattle.yl_events.specs.Outlines.{end_event}
use Rattle.yl_events.specs.Machine.{ParserState, step, run, taken_count}
use Rattle.yl_events.specs.Trail.{TrailValue, fault_from}

-- all events of the document, or its fault
pub data DocumentOutcome : Type 0 where
  Events : (outlines : List Outline) → DocumentOutcome
  Fails : (fault : PlacedParseFault) → DocumentOutcome

-- after `count` lexemes: the events of these symbols, or the fault at the lexeme with the index
-- `place` among them
abbrev pub document_outcome : TrailValue → (count place : ℕ) → List Symbol → Option (List Outline) → DocumentOutcome
document_outcome trail count place ws (Some es) = Events (es ++ end_event DocumentEnd ∷ [])
document_outcome trail count place ws None = Fails (record { kind = fault_from trail place ws; place = count + place })

-- the outcome if these symbols come, and no others
abbrev pub outcome_by : TrailValue → ℕ → List Goal → List Outline → List Symbol → DocumentOutcome
outcome_by trail count goals out ws = document_outcome trail count (taken_count ws goals out) ws (run ws goals out)

-- ---- some of the symbols

-- the goals and the events after these symbols; None: one of them is refused
abbrev pub steps_onto : (ParserState → Option ParserState) → Option ParserState → Option ParserState
steps_onto next None = None
steps_onto next (Some s) = next s

abbrev pub steps : List Symbol → List Goal → List Outline → Option ParserState
steps [] goals out = Some (record { goals = goals; events = out })
steps (w ∷ ws) goals out = steps_onto (λ s. steps ws s.goals s.events) (step goals out w)

-- the result of a walk: if all symbols are taken, None, the stack, whose top is last, and the
-- events; else the number of lexemes that are taken
abbrev pub Walked : Option ParserState → (taken : ℕ) → Option ℕ → List Goal → List Outline → Type 0
Walked s taken None goals events = s ≡ Some (record { goals = reverse goals; events = events })
Walked s taken (Some place) goals events = (s ≡ None) × (place ≡ taken)

-- all symbols of a document are taken, all goals are left, and these are the events; or only the
-- first lexemes, of this number, are taken
abbrev pub AnswersDocument : Option (List Outline) → (taken : ℕ) → Option ℕ → List Outline → Type 0
AnswersDocument r taken None events = r ≡ Some events
AnswersDocument r taken (Some place) events = (r ≡ None) × (place ≡ taken)
