-- The events of a section's document are its start, those of its rows, and those of its end.
use Rattle.std.proofs.Common.{◌≡◌, ◌<◌, ◌+◌, ℕ, List, [], ◌∷◌, ◌++◌, length, map, Option, Some, None, refl, sym, ◌∙◌, ap, arith}
use Rattle.std.specs.List.{AllByRecursion}
use Rattle.std.proofs.lemmas.List.{map-append}
use Rattle.std.proofs.lemmas.Simd.{map-map}
use Rattle.yl_text.proofs.Every.{all_both}
use Rattle.yl_lexeme.specs.Lexeme.{LexemeValue}
use Rattle.yl_marks.specs.declared.symbol.OpenBlock.{OpenBlock}
use Rattle.yl_marks.specs.declared.symbol.Symbol.{Symbol}
use Rattle.yl_marks.specs.Keys.{token_of}
use Rattle.yl_marks.specs.Marks.{closings_of_all}
use Rattle.yl_marks.specs.ByLine.{by_line, marker_at_start, marks_by_lines}
use Rattle.yl_marks.specs.FactsByLine.{key_marker_at_start}
use Rattle.yl_marks.proofs.MarksAlikeMarks.{closed_alike}
use Rattle.yl_events.specs.declared.fault.ParseFault.{ParseFault}
use Rattle.yl_events.specs.declared.fault.PlacedParseFault.{PlacedParseFault}
use Rattle.yl_events.specs.declared.symbol.Goal.{Goal}
use Rattle.yl_events.specs.declared.symbol.Outline.{Outline}
use Rattle.yl_events.specs.Derives.{lexeme_count}
use Rattle.yl_events.specs.DocumentOutcome.{DocumentOutcome, Events, Fails, document_outcome, steps}
use Rattle.yl_events.specs.Event.{EventValue, event_of_outline}
use Rattle.yl_events.specs.Machine.{ParserState, goals_of_document, run, taken_count}
use Rattle.yl_events.specs.ParsedAlike.{outcome_after, outcome_shape, outline_after, outline_shape}
use Rattle.yl_events.specs.Parsing.{document_outcome_of_lines, parser_at_start, start_events}
use Rattle.yl_events.specs.State.{parser_state}
use Rattle.yl_events.specs.SymbolParsing.{SymbolParserValue, outcome_of_symbols, symbols_at_start, told_behind}
use Rattle.yl_events.specs.Trail.{TrailValue, trail_after}
use Rattle.yl_events.proofs.Named.{closings_named}
use Rattle.yl_events.proofs.ParsedAlike.{parsed_alike}
use Rattle.yl_events.proofs.Parts.{told_on}
use Rattle.yl_events.proofs.States.{goals_again}
use Rattle.yl_events.proofs.ToldBehind.{fed_apart, symbols_behind}
use Rattle.yl_sections.specs.Judge.{built_by, document_of}
use Rattle.yl_sections.specs.Sections.{lexemes_of}
use Rattle.yl_pieces.specs.Laws.{fault_after}
use Rattle.yl_pieces.specs.Told.{fault_of, goals_after}
use Rattle.yl_pieces.specs.Events.{EventsOfSection, event_alone, outlines_of, outlines_told, start_event, without_anchor}
use Rattle.yl_pieces.proofs.JoinedParser.{taken_all}
use Rattle.yl_pieces.proofs.OfSectionFault.{fault_among, fault_at_end, fault_is, fault_or, open_at_end, symbols_of}
use Rattle.yl_pieces.proofs.OfSectionSymbols.{closed_after, rows_whole}
use Rattle.yl_pieces.proofs.EventsNamed.{IsWithin, outlines_run, run_within}
use Rattle.yl_pieces.proofs.EventsAlone.{alone_after, alone_front, alone_nowhere}

-- ---- outcomes

told_first : (out : List Outline) (o : DocumentOutcome) → fault_of o ≡ None → outlines_of (told_behind out o) ≡ out ++ outlines_of o
told_first out (Events es) h = refl
told_first out (Fails f) h = let some : Some f.kind ≡ None = h in absurd (cc)

fault_apart : (out : List Outline) (o : DocumentOutcome) → fault_of (told_behind out o) ≡ fault_of o
fault_apart out (Events es) = refl
fault_apart out (Fails f) = refl

fault_shape : (n : ℕ) (o : DocumentOutcome) → fault_of (outcome_after n (outcome_shape o)) ≡ fault_of o
fault_shape n (Events es) = refl
fault_shape n (Fails f) = refl

outlines_shape : (n : ℕ) (o : DocumentOutcome) → outlines_of (outcome_after n (outcome_shape o)) ≡ map (outline_after n) (map outline_shape (outlines_of o))
outlines_shape n (Events es) = refl
outlines_shape n (Fails f) = refl

-- ---- the end

outcome_within : (t : TrailValue) (count place : ℕ) (ws : List Symbol) (r : Option (List Outline)) → AllByRecursion (IsWithin 0) (outlines_run r)
    → AllByRecursion (IsWithin 0) (outlines_of (document_outcome t count place ws r))
outcome_within t count place ws None h = tt
outcome_within t count place ws (Some es) h = all_both (IsWithin 0) es _ h (tt, tt)

abbrev parser_of : List Goal → TrailValue → SymbolParserValue
parser_of goals trail = record { goals = goals; trail = trail }

module _ (q : SymbolParserValue) (count : ℕ) (os : List OpenBlock) where
  abbrev held : SymbolParserValue
  held = parser_state q

  abbrev ends : List Symbol
  ends = closings_of_all os

  abbrev there : DocumentOutcome
  there = outcome_of_symbols q count [] ends

  abbrev alone : DocumentOutcome
  alone = outcome_of_symbols held 0 [] ends

  same_shape : outcome_after 0 (outcome_shape there) ≡ outcome_after count (outcome_shape alone)
  same_shape =
      ap (λ (ws : List Symbol). outcome_after 0 (outcome_shape (outcome_of_symbols q count [] ws))) (sym (closed_alike count os))
      ∙ (parsed_alike q held count 0 ends (ap (λ (gs : List Goal). parser_of gs q.trail) (sym (goals_again q.goals held.goals refl)))).outcome
      ∙ ap (λ (ws : List Symbol). outcome_after count (outcome_shape (outcome_of_symbols held 0 [] ws))) (closed_alike 0 os)

  pub same_end_fault : fault_of there ≡ fault_of alone
  same_end_fault = sym (fault_shape 0 there) ∙ ap fault_of same_shape ∙ fault_shape count alone

  no_places : AllByRecursion (IsWithin 0) (outlines_of there)
  no_places = outcome_within q.trail count (taken_count ends q.goals []) ends (run ends q.goals []) (run_within 0 ends q.goals (closings_named (λ i. i < 0) os))

  -- no lexeme has a part in the events of the end
  pub same_end : (xs : List LexemeValue) → map (event_alone xs) (outlines_of there) ≡ map (event_alone []) (outlines_of alone)
  same_end xs =
      alone_front [] xs (outlines_of there) no_places
      ∙ sym (alone_after [] [] (outlines_of there))
      ∙ ap (λ (es : List Outline). map (event_alone []) es) (sym (outlines_shape 0 there) ∙ ap outlines_of same_shape ∙ outlines_shape count alone)
      ∙ alone_nowhere count (outlines_of alone)

-- ---- the document

built_events : (xs : List LexemeValue) (o : DocumentOutcome) → (built_by xs o).events ≡ map (event_of_outline xs) (outlines_of o)
built_events xs (Events es) = refl
built_events xs (Fails f) = refl

document_events : (xs : List LexemeValue) → 0 < length xs
    → (document_of xs).events ≡ map (event_of_outline xs) (outlines_of (outcome_of_symbols symbols_at_start 0 start_events (marks_by_lines marker_at_start (by_line (map token_of xs)))))
document_events [] h = absurd (omega (arith, h))
document_events (x ∷ xs) h = built_events (x ∷ xs) (document_outcome_of_lines parser_at_start start_events (by_line (map token_of (x ∷ xs))))

no_fault : (n : ℕ) (f : Option PlacedParseFault) (end : Option ParseFault) → fault_or f (fault_after n end) ≡ None → (f ≡ None) × (end ≡ None)
no_fault n None None h = (refl, refl)
no_fault n None (Some kind) h = cc
no_fault n (Some f) end h = cc

module _ (xs : List LexemeValue) (t : ParserState) (taken : steps (symbols_of xs) goals_of_document [] ≡ Some t) (ends_well : fault_at_end xs ≡ None) where
  abbrev ws : List Symbol
  ws = symbols_of xs

  abbrev q : SymbolParserValue
  q = parser_of t.goals (trail_after symbols_at_start.trail ws)

  abbrev count : ℕ
  count = 0 + lexeme_count ws

  abbrev closings : List Symbol
  closings = closings_of_all (open_at_end xs)

  abbrev end : DocumentOutcome
  end = outcome_of_symbols q count [] closings

  parser_held : goals_after (steps ws goals_of_document []) symbols_at_start ws ≡ parser_state q
  parser_held = ap (λ (r : Option ParserState). goals_after r symbols_at_start ws) taken

  outcome_is : outcome_of_symbols symbols_at_start 0 start_events (marks_by_lines marker_at_start (by_line (map token_of xs))) ≡ told_behind start_events (told_behind t.events end)
  outcome_is =
      symbols_behind start_events symbols_at_start 0 [] (marks_by_lines marker_at_start (by_line (map token_of xs)))
      ∙ ap (λ (us : List Symbol). told_behind start_events (outcome_of_symbols symbols_at_start 0 [] us)) (closed_after key_marker_at_start (by_line (map token_of xs)))
      ∙ ap (told_behind start_events)
      (fed_apart symbols_at_start q 0 t.events ws closings (λ us. told_on symbols_at_start.trail 0 goals_of_document [] ws us t (rows_whole marker_at_start (by_line (map token_of xs))) taken))

  abbrev end_of : SymbolParserValue → DocumentOutcome
  end_of p = outcome_of_symbols p 0 [] closings

  sound : fault_of end ≡ None
  sound = same_end_fault q count (open_at_end xs) ∙ ap (λ (p : SymbolParserValue). fault_of (end_of p)) (sym parser_held) ∙ ends_well

  outlines_are : outlines_of (told_behind start_events (told_behind t.events end)) ≡ start_events ++ (t.events ++ outlines_of end)
  outlines_are =
      told_first start_events (told_behind t.events end) (fault_apart t.events end ∙ sound) ∙ ap (λ (os : List Outline). start_events ++ os) (told_first t.events end sound)

  pub events_are : 0 < length xs → map without_anchor (document_of xs).events
      ≡ start_event ∷ (map (event_alone xs) (outlines_told (steps ws goals_of_document [])) ++ map (event_alone []) (outlines_of (end_of (goals_after (steps ws goals_of_document []) symbols_at_start ws))))
  events_are h =
      ap (map without_anchor) (document_events xs h)
      ∙ map-map without_anchor (event_of_outline xs) _
      ∙ ap (λ (o : DocumentOutcome). map (event_alone xs) (outlines_of o)) outcome_is
      ∙ ap (map (event_alone xs)) outlines_are
      ∙ ap (λ (es : List EventValue). start_event ∷ es)
      (map-append (event_alone xs) t.events (outlines_of end)
      ∙ ap (λ (os : List Outline). map (event_alone xs) os ++ map (event_alone xs) (outlines_of end)) (sym (ap outlines_told taken))
      ∙ ap (λ (es : List EventValue). map (event_alone xs) (outlines_told (steps ws goals_of_document [])) ++ es)
      (same_end q count (open_at_end xs) xs ∙ ap (λ (p : SymbolParserValue). map (event_alone []) (outlines_of (end_of p))) (sym parser_held)))

pub events_of_section : EventsOfSection
events_of_section rs h none =
    let xs = lexemes_of rs in
    let sound = no_fault (length xs) (fault_among xs) (fault_at_end xs) (sym (fault_is xs h) ∙ none) in
    let t = taken_all symbols_at_start (symbols_of xs) (steps (symbols_of xs) goals_of_document []) sound.0 in
    events_are xs t.0 t.1 sound.1 h
