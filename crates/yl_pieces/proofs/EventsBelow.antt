-- The same rows further down tell the same events, so many lines below.
use Rattle.std.proofs.Common.{◌≡◌, ◌+◌, ℕ, List, [], map, refl, sym, ◌∙◌, ap, arith}
use Rattle.yl_lexeme.specs.Lexeme.{LexemeValue}
use Rattle.yl_marks.specs.declared.token.Token.{Token}
use Rattle.yl_marks.specs.declared.symbol.Symbol.{Symbol}
use Rattle.yl_marks.specs.ByLine.{by_line}
use Rattle.yl_marks.specs.FactsByLine.{KeyMarkerValue}
use Rattle.yl_marks.specs.MarksAlike.{AreMarkedAlike, IsAbove, marks_of_rows, rows_below}
use Rattle.yl_marks.proofs.MarksAlike.{marked_alike}
use Rattle.yl_events.specs.DocumentOutcome.{steps}
use Rattle.yl_record.specs.Records.{RecordValue}
use Rattle.yl_sections.specs.Sections.{lexemes_from}
use Rattle.yl_pieces.specs.State.{DocumentState, marker_from, start_state}
use Rattle.yl_pieces.specs.Told.{symbols_in, tokens_in}
use Rattle.yl_pieces.specs.DuplicatesOfRuns.{event_below}
use Rattle.yl_pieces.specs.Events.{EventsAreBelow, StartEventsAreBelow, event_alone, events_in, outlines_in, outlines_told}
use Rattle.yl_pieces.proofs.JoinedMarks.{from_above}
use Rattle.yl_pieces.proofs.ToldBelowLists.{same_by_count}
use Rattle.yl_pieces.proofs.ToldBelowRows.{lexemes_moved, lines_there}
use Rattle.yl_pieces.proofs.EventsNamed.{rows_within}
use Rattle.yl_pieces.proofs.EventsAlone.{alone_below}

module _ (s : DocumentState) (n line : ℕ) (rs : List RecordValue) (far : IsAbove (n + line) (marker_from s.marker).marks) (near : IsAbove line (marker_from s.marker).marks) where
  abbrev before : KeyMarkerValue
  before = marker_from s.marker

  abbrev rows : List (List Token)
  rows = by_line (tokens_in 0 rs)

  are_marked : AreMarkedAlike before before (n + line) line rows
  are_marked = marked_alike before before (n + line) line rows refl far near

  symbols_at : (i : ℕ) → symbols_in s i rs ≡ marks_of_rows before.marks (rows_below i rows)
  symbols_at i = ap (λ (ls : List (List Token)). marks_of_rows before.marks ls) (lines_there i rs)

  pub symbols_stay : symbols_in s (n + line) rs ≡ symbols_in s line rs
  symbols_stay =
      symbols_at (n + line)
      ∙ same_by_count (marks_of_rows before.marks (rows_below (n + line) rows)) (marks_of_rows before.marks (rows_below line rows)) are_marked.alone
      ∙ sym (symbols_at line)

  pub events_move : events_in s (n + line) rs ≡ map (event_below n) (events_in s line rs)
  events_move =
      ap (λ (ws : List Symbol). map (event_alone (lexemes_from (n + line) rs)) (outlines_told (steps ws s.parser.goals []))) symbols_stay
      ∙ ap (λ (xs : List LexemeValue). map (event_alone xs) (outlines_in s line rs)) (lexemes_moved n line rs)
      ∙ alone_below n (lexemes_from line rs) (outlines_in s line rs) (rows_within s line rs)

pub events_below : EventsAreBelow
events_below s n line rs h = events_move s n line rs (from_above (n + line) s.marker (omega (arith, h))) (from_above line s.marker h)

pub start_events_below : StartEventsAreBelow
start_events_below n line rs = events_move start_state n line rs tt tt
