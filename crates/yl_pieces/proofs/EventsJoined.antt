-- The events of rows, and then those of the rows after them, by the state between.
use Rattle.std.proofs.Common.{◌≡◌, ◌<◌, ◌+◌, ℕ, List, [], ◌++◌, length, map, Option, Some, None, sym, ◌∙◌, ap, subst}
use Rattle.std.specs.List.{AllByRecursion}
use Rattle.std.proofs.lemmas.List.{length-map, map-append}
use Rattle.yl_lexeme.specs.Lexeme.{LexemeValue}
use Rattle.yl_marks.specs.declared.token.Token.{Token}
use Rattle.yl_marks.specs.declared.symbol.Symbol.{Symbol}
use Rattle.yl_marks.specs.Keys.{token_of}
use Rattle.yl_marks.specs.ByLine.{by_line}
use Rattle.yl_marks.specs.FactsByLine.{KeyMarkerValue}
use Rattle.yl_marks.specs.MarksAlike.{AreMarkedAlike, marks_of_rows, rows_below, symbol_after}
use Rattle.yl_marks.proofs.MarksAlike.{marked_alike}
use Rattle.yl_marks.proofs.Runs.{joined_lines}
use Rattle.yl_events.specs.declared.fault.PlacedParseFault.{PlacedParseFault}
use Rattle.yl_events.specs.declared.symbol.Goal.{Goal}
use Rattle.yl_events.specs.declared.symbol.Outline.{Outline}
use Rattle.yl_events.specs.DocumentOutcome.{steps}
use Rattle.yl_events.specs.Event.{EventValue}
use Rattle.yl_events.specs.Machine.{ParserState}
use Rattle.yl_events.specs.ParsedAlike.{symbols_after}
use Rattle.yl_events.specs.State.{parser_state}
use Rattle.yl_events.specs.SymbolParsing.{SymbolParserValue}
use Rattle.yl_events.specs.Trail.{TrailValue, trail_after}
use Rattle.yl_record.specs.Records.{RecordValue}
use Rattle.yl_sections.specs.Sections.{lexemes_from}
use Rattle.yl_sections.proofs.RowJudging.{lexemes_of_both}
use Rattle.yl_pieces.specs.State.{DocumentState, marker_from}
use Rattle.yl_pieces.specs.Told.{fault_at, fault_in, goals_after, state_after, symbols_in, tokens_in}
use Rattle.yl_pieces.specs.Laws.{AreClosed}
use Rattle.yl_pieces.specs.Events.{EventsAreJoined, event_alone, events_in, outlines_in, outlines_told}
use Rattle.yl_pieces.proofs.JoinedLines.{StandsAbove, closed_above, lines_there}
use Rattle.yl_pieces.proofs.JoinedMarks.{from_above, rows_above, same_marker, same_symbols}
use Rattle.yl_pieces.proofs.JoinedParser.{taken_all}
use Rattle.yl_pieces.proofs.JoinedTold.{after, count_here, symbols_all}
use Rattle.yl_pieces.proofs.EventsNamed.{rows_within}
use Rattle.yl_pieces.proofs.EventsAlone.{alone_after, alone_front}
use Rattle.yl_pieces.proofs.EventsSteps.{taken_after, told_after, told_both}

module _ (s : DocumentState) (line : ℕ) (front rest : List RecordValue) (closed : AreClosed front) (some : 0 < line + length front) where
  abbrev below : ℕ
  below = line + length front

  abbrev next : DocumentState
  next = state_after s line front

  abbrev read : KeyMarkerValue
  read = after s line front rest

  abbrev top : List (List Token)
  top = by_line (tokens_in 0 rest)

  abbrev ts : List Token
  ts = tokens_in line front

  abbrev xs : List LexemeValue
  xs = lexemes_from line front

  abbrev ys : List LexemeValue
  ys = lexemes_from below rest

  abbrev ws : List Symbol
  ws = symbols_in s line front

  abbrev vs : List Symbol
  vs = symbols_in next below rest

  abbrev goals : List Goal
  goals = s.parser.goals

  -- ---- symbols

  alike : AreMarkedAlike read (marker_from next.marker) below below top
  alike =
      marked_alike read (marker_from next.marker) below below top (sym (same_marker next.marker))
      (rows_above below (marker_from s.marker) (by_line ts) (from_above below s.marker some)
      (subst (λ (us : List Token). AllByRecursion (StandsAbove below) us) (sym (joined_lines ts)) (closed_above line front closed)))
      (from_above below next.marker some)

  pub symbols_are : symbols_in s line (front ++ rest) ≡ ws ++ symbols_after (length xs) vs
  symbols_are =
      symbols_all s line front rest
      ∙ ap (λ (us : List Symbol). ws ++ us)
      (ap (marks_of_rows read.marks) (lines_there below rest)
      ∙ sym (same_symbols (marks_of_rows read.marks (rows_below below top)))
      ∙ alike.alone
      ∙ ap (λ (ls : List (List Token)). map (symbol_after read.marks.count) (marks_of_rows (marker_from next.marker).marks ls)) (sym (lines_there below rest))
      ∙ ap (λ (n : ℕ). map (symbol_after n) vs) (count_here s line front rest ∙ length-map xs token_of))

  -- ---- events

  module _ (t u : ParserState) (taken : steps ws goals [] ≡ Some t) (taken_next : steps vs (parser_state (record { goals = t.goals; trail = trail_after s.parser.trail ws })).goals [] ≡ Some u) where
    abbrev trail : TrailValue
    trail = trail_after s.parser.trail ws

    abbrev later : List Symbol
    later = symbols_after (length xs) vs

    taken_later : (v : ParserState) × (steps later t.goals [] ≡ Some v)
    taken_later = taken_after t.goals trail (length xs) vs u taken_next

    parser_held : next.parser ≡ parser_state (record { goals = t.goals; trail = trail })
    parser_held = ap (λ (r : Option ParserState). goals_after r s.parser ws) taken

    later_are : map (event_alone (xs ++ ys)) (outlines_told (steps later t.goals [])) ≡ events_in next below rest
    later_are =
        sym (alone_after [] (xs ++ ys) (outlines_told (steps later t.goals [])))
        ∙ ap (λ (os : List Outline). map (event_alone (xs ++ ys)) os) (told_after t.goals trail (length xs) vs)
        ∙ alone_after xs ys (outlines_told (steps vs (parser_state (record { goals = t.goals; trail = trail })).goals []))
        ∙ ap (λ (p : SymbolParserValue). map (event_alone ys) (outlines_told (steps vs p.goals []))) (sym parser_held)

    events_are : events_in s line (front ++ rest) ≡ events_in s line front ++ events_in next below rest
    events_are =
        ap (λ (zs : List LexemeValue). map (event_alone zs) (outlines_in s line (front ++ rest))) (lexemes_of_both line front rest)
        ∙ ap (λ (us : List Symbol). map (event_alone (xs ++ ys)) (outlines_told (steps us goals []))) symbols_are
        ∙ ap (λ (os : List Outline). map (event_alone (xs ++ ys)) os) (told_both ws later goals t taken_later.0 taken taken_later.1)
        ∙ map-append (event_alone (xs ++ ys)) (outlines_in s line front) (outlines_told (steps later t.goals []))
        ∙ ap (λ (es : List EventValue). es ++ map (event_alone (xs ++ ys)) (outlines_told (steps later t.goals []))) (alone_front xs ys (outlines_in s line front) (rows_within s line front))
        ∙ ap (λ (es : List EventValue). events_in s line front ++ es) later_are

  abbrev fault_of : SymbolParserValue → Option PlacedParseFault
  fault_of p = fault_at p vs (steps vs p.goals [])

  pub both_told : fault_in s line front ≡ None → fault_in next below rest ≡ None → events_in s line (front ++ rest) ≡ events_in s line front ++ events_in next below rest
  both_told sound sound_next =
      let t = taken_all s.parser ws (steps ws goals []) sound in
      let held : SymbolParserValue = parser_state (record { goals = t.0.goals; trail = trail_after s.parser.trail ws }) in
      let is_held : next.parser ≡ held = ap (λ (r : Option ParserState). goals_after r s.parser ws) t.1 in
      let u = taken_all held vs (steps vs held.goals []) (sym (ap fault_of is_held) ∙ sound_next) in
      events_are t.0 u.0 t.1 u.1

pub events_joined : EventsAreJoined
events_joined s line front rest closed some sound sound_next = both_told s line front rest closed some sound sound_next
