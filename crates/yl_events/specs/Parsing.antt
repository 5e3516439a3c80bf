-- Bridge: a document that is parsed line by line: its outcome, by the lines that are still to come.
use Rattle.std.specs.Prelude.{◌≡◌, List, [], ◌∷◌, Option, Some, None}
use Rattle.yl_lexeme.specs.Lexeme.{LexemeValue}
use Rattle.yl_marks.specs.declared.token.Token.{Token}
use Rattle.yl_marks.specs.Marks.{symbols_of_lexemes}
use Rattle.yl_marks.specs.ByLine.{MarkerValue, marker_at_start, marks_by_lines}
use Rattle.yl_events.specs.declared.symbol.Goal.{Goal}
use Rattle.yl_events.specs.declared.symbol.Outline.{Outline}
use Rattle.yl_events.specs.declared.symbol.Shape.TheVariants.{DocumentStart}
use Rattle.yl_events.specs.declared.fault.PlacedParseFault.{PlacedParseFault}
use Rattle.yl_events.specs.Outlines.{bare_event}
use Rattle.yl_events.specs.Machine.{goals_of_document}
use Rattle.yl_events.specs.Trail.{TrailValue, no_trail}
use Rattle.yl_events.specs.Derives.{Derives}
use Rattle.yl_events.specs.Built.{IsFaultOf}
use Rattle.yl_events.specs.DocumentOutcome.{DocumentOutcome, Events, Fails, outcome_by}

-- what the rest of a document depends on, of the lines that were read
pub record ParserValue : Type 0 where
  pub marks : MarkerValue
  pub goals : List Goal  -- what is still to be read, the innermost first
  pub trail : TrailValue

-- no document has begun: every lexeme is refused
abbrev pub no_document : ParserValue
no_document = record { marks = marker_at_start; goals = []; trail = no_trail }

abbrev pub parser_at_start : ParserValue
parser_at_start = record { marks = marker_at_start; goals = goals_of_document; trail = no_trail }

-- the outlines of the start of a document
abbrev pub start_events : List Outline
start_events = bare_event DocumentStart None ∷ []

-- the outcome if the document ends with these lines: the events `out` and those of the lines, or
-- the fault
abbrev pub document_outcome_of_lines : ParserValue → List Outline → List (List Token) → DocumentOutcome
document_outcome_of_lines p out lines = outcome_by p.trail p.marks.count p.goals out (marks_by_lines p.marks lines)

-- one line more: its events are appended, or the document has this fault, whatever follows
abbrev pub Feeds : ParserValue → List Outline → List Token → Option PlacedParseFault → ParserValue → List Outline → Type 0
Feeds p out line None q out' = (lines : List (List Token)) → document_outcome_of_lines p out (line ∷ lines) ≡ document_outcome_of_lines q out' lines
Feeds p out line (Some f) q out' = (lines : List (List Token)) → document_outcome_of_lines p out (line ∷ lines) ≡ Fails f

-- all events are appended, or the document has this fault
abbrev pub IsOutcome : DocumentOutcome → Option PlacedParseFault → List Outline → Type 0
IsOutcome t None out = t ≡ Events out
IsOutcome t (Some f) out = t ≡ Fails f

-- the outcome of the document with these lexemes: the events of its derivation, or its fault
abbrev pub Gives : List LexemeValue → DocumentOutcome → Type 0
Gives xs (Events es) = Derives (symbols_of_lexemes xs) es
Gives xs (Fails f) = IsFaultOf xs f
