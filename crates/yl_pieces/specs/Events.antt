-- Bridge: the events of rows by the state before them, without their anchors, and laws of them: one
-- run of rows after another, the same rows further down, and the rows of a whole section. The
-- anchors and aliases of a document have laws of their own.
use Rattle.std.specs.Prelude.{◌≡◌, ◌<◌, ◌+◌, ◌++◌, ◌∷◌, [], ℕ, false, List, map, length, Option, Some, None}
use Rattle.yl_lexeme.specs.Lexeme.{LexemeValue}
use Rattle.yl_marks.specs.Marks.{closings_of_all}
use Rattle.yl_events.specs.declared.symbol.Outline.{Outline}
use Rattle.yl_events.specs.DocumentOutcome.{DocumentOutcome, Events, Fails, steps}
use Rattle.yl_events.specs.Event.{DocumentStart, EventValue, event_of_outline}
use Rattle.yl_events.specs.Machine.{ParserState}
use Rattle.yl_events.specs.SymbolParsing.{outcome_of_symbols}
use Rattle.yl_record.specs.Records.{RecordValue}
use Rattle.yl_sections.specs.Judge.{document_of}
use Rattle.yl_sections.specs.Sections.{lexemes_from, lexemes_of}
use Rattle.yl_pieces.specs.DuplicatesOfRuns.{event_below}
use Rattle.yl_pieces.specs.State.{DocumentState, start_state}
use Rattle.yl_pieces.specs.Told.{fault_in, state_after, symbols_in}
use Rattle.yl_pieces.specs.Laws.{AreClosed}

-- ---- the events of rows

abbrev pub without_anchor : EventValue → EventValue
without_anchor e = record e { anchor = None }

-- the event of an outline that names these lexemes, without its anchor, which may stand above them
abbrev pub event_alone : List LexemeValue → Outline → EventValue
event_alone xs o = without_anchor (event_of_outline xs o)

-- what the parser has told; nothing where a symbol is refused
abbrev pub outlines_told : Option ParserState → List Outline
outlines_told None = []
outlines_told (Some t) = t.events

-- what it tells of the rows, the first of which is at this line
abbrev pub outlines_in : DocumentState → ℕ → List RecordValue → List Outline
outlines_in s line rs = outlines_told (steps (symbols_in s line rs) s.parser.goals [])

abbrev pub events_in : DocumentState → ℕ → List RecordValue → List EventValue
events_in s line rs = map (event_alone (lexemes_from line rs)) (outlines_in s line rs)

-- ---- the events around the rows of a document

abbrev pub start_event : EventValue
start_event = record { kind = DocumentStart; place = None; anchor = None; is_tagged = false }

abbrev pub outlines_of : DocumentOutcome → List Outline
outlines_of (Events es) = es
outlines_of (Fails f) = []

-- those of the document that ends in this state. No lexeme is among them
abbrev pub end_events : DocumentState → List EventValue
end_events s = map (event_alone []) (outlines_of (outcome_of_symbols s.parser 0 [] (closings_of_all s.marker.marks.open_ones)))

-- ---- one run of rows after another

-- where neither has a fault, the events of all of them are those of the ones and then those of the
-- others. Where the rows after them have a fault, all of them together tell nothing
abbrev pub EventsAreJoined : Type 0
EventsAreJoined = (s : DocumentState) (line : ℕ) (front rest : List RecordValue)
    → AreClosed front → 0 < line + length front → fault_in s line front ≡ None → fault_in (state_after s line front) (line + length front) rest ≡ None
    → events_in s line (front ++ rest) ≡ events_in s line front ++ events_in (state_after s line front) (line + length front) rest

-- ---- the same rows further down

-- lines move events, and nothing else: below line 0, where the latest lexeme stands
abbrev pub EventsAreBelow : Type 0
EventsAreBelow = (s : DocumentState) (n line : ℕ) (rs : List RecordValue) → 0 < line → events_in s (n + line) rs ≡ map (event_below n) (events_in s line rs)

-- at a document's start below line 0 too: no lexeme stands above
abbrev pub StartEventsAreBelow : Type 0
StartEventsAreBelow = (n line : ℕ) (rs : List RecordValue) → events_in start_state (n + line) rs ≡ map (event_below n) (events_in start_state line rs)

-- ---- the rows of a section

-- the events of a section's document, if it has no fault, are its start, those of its rows, and
-- those of its end
abbrev pub EventsOfSection : Type 0
EventsOfSection = (rs : List RecordValue) → 0 < length (lexemes_of rs) → (document_of (lexemes_of rs)).fault ≡ None
    → map without_anchor (document_of (lexemes_of rs)).events ≡ start_event ∷ (events_in start_state 0 rs ++ end_events (state_after start_state 0 rs))
