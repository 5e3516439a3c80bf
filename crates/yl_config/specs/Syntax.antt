-- Meaning: the position of the first fault of a text: its scan fault, or the first parse fault of
-- its documents, whichever is earlier (YAML 1.2.2, chapter 9, for the documents).
use Rattle.std.specs.Prelude.{ℕ, Bool, ◌&&◌, ◌||◌, ◌==◌, nat_lt, if◌then◌else◌, List, [], ◌∷◌, Option, Some, None, slice_get}
use Rattle.yl_text.specs.declared.position.Pos.{Pos}
use Rattle.yl_lexeme.specs.Lexeme.{LexemeValue}
use Rattle.yl_events.specs.declared.fault.PlacedParseFault.{PlacedParseFault}
use Rattle.yl_config.specs.TextReading.{TextReading}
use Rattle.yl_config.specs.TextDocuments.{BuiltDocumentValue}

-- the position p is before the position q
abbrev pub stands_before : Pos → Pos → Bool
stands_before p q = nat_lt p.line q.line || (p.line == q.line && nat_lt p.col q.col)

-- the position at which a lexeme begins, if there is one, else the position after all lexemes
abbrev pub start_or : Option Pos → Option LexemeValue → Option Pos
start_or behind None = behind
start_or behind (Some x) = Some x.start

-- the position at which the first of these documents begins, if there is one, else the position
-- after all of them
abbrev pub place_behind : Option Pos → List BuiltDocumentValue → Option Pos
place_behind end [] = end
place_behind end (d ∷ ds) = start_or end (slice_get d.lexemes 0)

-- the position of a document's fault, if it has one: at one of its lexemes, or after them, if a
-- fault may be there
abbrev pub place_of_parse_fault : Option Pos → List LexemeValue → Option PlacedParseFault → Option Pos
place_of_parse_fault behind xs None = None
place_of_parse_fault behind xs (Some f) = start_or behind (slice_get xs f.place)

abbrev pub first_place : Option Pos → Option Pos → Option Pos
first_place None later = later
first_place (Some p) later = Some p

-- the position of the first fault of these documents; `end` is the position after all of them, if a
-- fault may be there
abbrev pub parse_fault : Option Pos → List BuiltDocumentValue → Option Pos
parse_fault end [] = None
parse_fault end (d ∷ ds) = first_place (place_of_parse_fault (place_behind end ds) d.lexemes d.fault) (parse_fault end ds)

-- at the end of the text there is a parse fault only if there is no scan fault
abbrev pub open_end : Pos → Option Pos → Option Pos
open_end end None = Some end
open_end end (Some fault) = None

abbrev pub earlier_place : Option Pos → Option Pos → Option Pos
earlier_place None q = q
earlier_place (Some p) None = Some p
earlier_place (Some p) (Some q) = Some (if stands_before q p then q else p)

abbrev pub text_fault : TextReading → List BuiltDocumentValue → Option Pos
text_fault r ds = earlier_place r.fault (parse_fault (open_end r.end r.fault) ds)
