-- The fault of a section's document: at a lexeme of its rows, or after all of them.
use Rattle.std.specs.Prelude.{ℕ, ◌≡◌, ◌<◌, ◌+◌, refl, true, List, [], ◌∷◌, ◌++◌, length, map, Option, Some, None}
use Rattle.std.proofs.Common.{sym, ◌∙◌, ap, append-nil, zero-add, arith}
use Rattle.std.proofs.lemmas.List.{length-map}
use Rattle.yl_lexeme.specs.Lexeme.{LexemeValue}
use Rattle.yl_marks.specs.declared.symbol.OpenBlock.{OpenBlock}
use Rattle.yl_marks.specs.declared.symbol.Symbol.{Symbol}
use Rattle.yl_marks.specs.Keys.{token_of}
use Rattle.yl_marks.specs.Marks.{closings_of_all}
use Rattle.yl_marks.specs.ByLine.{by_line, marker_at_start, marks_by_lines}
use Rattle.yl_marks.specs.FactsByLine.{key_marker_at_start}
use Rattle.yl_marks.specs.MarksAlike.{after_rows, marks_of_rows}
use Rattle.yl_marks.proofs.MarksAlikeMarks.{closed_alike}
use Rattle.yl_events.specs.declared.fault.ParseFault.{ParseFault}
use Rattle.yl_events.specs.declared.fault.PlacedParseFault.{PlacedParseFault}
use Rattle.yl_events.specs.declared.symbol.Goal.{Goal}
use Rattle.yl_events.specs.declared.symbol.Goal.TheVariants.{Formed}
use Rattle.yl_events.specs.declared.symbol.Outline.{Outline}
use Rattle.yl_events.specs.declared.symbol.Properties.{Properties}
use Rattle.yl_events.specs.declared.symbol.Properties.TheVariants.{Anchored, Tagged, AnchoredTagged, TaggedAnchored}
use Rattle.yl_events.specs.declared.symbol.Where.{Where}
use Rattle.yl_events.specs.Derives.{lexeme_count}
use Rattle.yl_events.specs.DocumentOutcome.{DocumentOutcome, Events, Fails, steps}
use Rattle.yl_events.specs.Machine.{ParserState, goals_of_document, taken_count}
use Rattle.yl_events.specs.ParsedAlike.{outcome_after, outcome_shape, symbols_after}
use Rattle.yl_events.specs.Parsing.{document_outcome_of_lines, parser_at_start, start_events}
use Rattle.yl_events.specs.State.{goal_state, parser_state, properties_state}
use Rattle.yl_events.specs.SymbolParsing.{SymbolParserValue, is_whole, outcome_of_symbols, symbols_at_start, told_behind}
use Rattle.yl_events.specs.Trail.{fault_from, trail_after}
use Rattle.yl_events.proofs.ParsedAlike.{parsed_alike}
use Rattle.yl_events.proofs.Parts.{told_on, told_stop}
use Rattle.yl_events.proofs.ToldBehind.{symbols_behind}
use Rattle.yl_sections.specs.Judge.{built_by, document_of}
use Rattle.yl_sections.specs.Reading.{fault_told}
use Rattle.yl_sections.proofs.LineByLine.{close_place}
use Rattle.yl_pieces.specs.Laws.{fault_after}
use Rattle.yl_pieces.specs.Told.{fault_at, fault_of, goals_after}
use Rattle.yl_pieces.proofs.OfSectionSymbols.{closed_after, rows_count, rows_whole}

-- ---- a state is its own state

properties_twice : (ps : Properties) → properties_state (properties_state ps) ≡ properties_state ps
properties_twice (Anchored a) = refl
properties_twice (Tagged t) = refl
properties_twice (AnchoredTagged a t) = refl
properties_twice (TaggedAnchored t a) = refl

formed_twice : (w : Where) (ps : Option Properties) → goal_state (goal_state (Formed w ps)) ≡ goal_state (Formed w ps)
formed_twice w None = refl
formed_twice w (Some ps) = ap (λ (qs : Properties). Formed w (Some qs)) (properties_twice ps)

goal_twice : (g : Goal) → goal_state (goal_state g) ≡ goal_state g
goal_twice (Formed w ps) = formed_twice w ps
goal_twice g = refl

goals_twice : (gs : List Goal) → map goal_state (map goal_state gs) ≡ map goal_state gs
goals_twice [] = refl
goals_twice (g ∷ gs) = ap (λ (h : Goal). h ∷ map goal_state (map goal_state gs)) (goal_twice g) ∙ ap (λ (hs : List Goal). goal_state g ∷ hs) (goals_twice gs)

state_twice : (p : SymbolParserValue) → parser_state (parser_state p) ≡ parser_state p
state_twice p = ap (λ (gs : List Goal). record { goals = gs; trail = p.trail }) (goals_twice p.goals)

-- ---- the end

-- which fault it is depends on the state alone
kind_shape : (n : ℕ) (o : DocumentOutcome) → fault_of (outcome_after n (outcome_shape o)) ≡ fault_of o
kind_shape n (Events es) = refl
kind_shape n (Fails f) = refl

kind_at_end : (p : SymbolParserValue) (count : ℕ) (os : List OpenBlock)
    → fault_of (outcome_of_symbols p count [] (closings_of_all os)) ≡ fault_of (outcome_of_symbols (parser_state p) 0 [] (closings_of_all os))
kind_at_end p count os =
    let ws = closings_of_all os in
    let q = parser_state p in
    ap (λ (vs : List Symbol). fault_of (outcome_of_symbols p count [] vs)) (sym (closed_alike count os))
    ∙ sym (kind_shape 0 (outcome_of_symbols p count [] (symbols_after count ws)))
    ∙ ap fault_of (parsed_alike p q count 0 ws (sym (state_twice p))).outcome
    ∙ kind_shape count (outcome_of_symbols q 0 [] (symbols_after 0 ws))
    ∙ ap (λ (vs : List Symbol). fault_of (outcome_of_symbols q 0 [] vs)) (closed_alike 0 os)

-- it stands after all lexemes
placed : (count : ℕ) (o : DocumentOutcome) → ((f : PlacedParseFault) → o ≡ Fails f → f.place ≡ count) → fault_told o ≡ fault_after count (fault_of o)
placed count (Events es) h = refl
placed count (Fails f) h = ap (λ n. Some (record { kind = f.kind; place = n })) (h f refl)

-- and no event before has a part in it
fault_after_events : (out : List Outline) (o : DocumentOutcome) → fault_told (told_behind out o) ≡ fault_told o
fault_after_events out (Events es) = refl
fault_after_events out (Fails f) = refl

told_apart : (p : SymbolParserValue) (count : ℕ) (out : List Outline) (ws : List Symbol) → fault_told (outcome_of_symbols p count out ws) ≡ fault_told (outcome_of_symbols p count [] ws)
told_apart p count out ws =
    ap (λ (os : List Outline). fault_told (outcome_of_symbols p count os ws)) (sym (append-nil out))
    ∙ ap fault_told (symbols_behind out p count [] ws)
    ∙ fault_after_events out (outcome_of_symbols p count [] ws)

told_at_end : (p : SymbolParserValue) (count : ℕ) (out : List Outline) (os : List OpenBlock)
    → fault_told (outcome_of_symbols p count out (closings_of_all os)) ≡ fault_after count (fault_of (outcome_of_symbols (parser_state p) 0 [] (closings_of_all os)))
told_at_end p count out os =
    let o = outcome_of_symbols p count [] (closings_of_all os) in
    told_apart p count out (closings_of_all os) ∙ placed count o (close_place p count os) ∙ ap (fault_after count) (kind_at_end p count os)

-- ---- the fault of symbols, and then closings

-- a fault at a lexeme, or else the one after all
abbrev pub fault_or : Option PlacedParseFault → Option PlacedParseFault → Option PlacedParseFault
fault_or (Some f) end = Some f
fault_or None end = end

fault_of_both : (p : SymbolParserValue) (ws : List Symbol) (os : List OpenBlock) (r : Option ParserState) → is_whole true ws ≡ true → steps ws p.goals [] ≡ r
    → fault_told (outcome_of_symbols p 0 [] (ws ++ closings_of_all os))
    ≡ fault_or (fault_at p ws r) (fault_after (lexeme_count ws) (fault_of (outcome_of_symbols (goals_after r p ws) 0 [] (closings_of_all os))))
fault_of_both p ws os (Some s) whole e =
    let q : SymbolParserValue = record { goals = s.goals; trail = trail_after p.trail ws } in
    ap fault_told (told_on p.trail 0 p.goals [] ws (closings_of_all os) s whole e)
    ∙ told_at_end q (0 + lexeme_count ws) s.events os
    ∙ ap (λ n. fault_after n (fault_of (outcome_of_symbols (parser_state q) 0 [] (closings_of_all os)))) (zero-add (lexeme_count ws))
fault_of_both p ws os None whole e =
    let n = taken_count ws p.goals [] in
    ap fault_told (told_stop p.trail 0 p.goals [] ws (closings_of_all os) whole e)
    ∙ ap (λ k. Some (record { kind = fault_from p.trail n ws; place = k })) (zero-add n)

-- ---- the fault of a document

-- the symbols of the lexemes
abbrev pub symbols_of : List LexemeValue → List Symbol
symbols_of xs = marks_of_rows marker_at_start (by_line (map token_of xs))

-- what is open after them
abbrev pub open_at_end : List LexemeValue → List OpenBlock
open_at_end xs = (after_rows key_marker_at_start (by_line (map token_of xs))).marks.open_ones

-- the fault at one of them
abbrev pub fault_among : List LexemeValue → Option PlacedParseFault
fault_among xs = fault_at symbols_at_start (symbols_of xs) (steps (symbols_of xs) goals_of_document [])

-- the fault after them
abbrev pub fault_at_end : List LexemeValue → Option ParseFault
fault_at_end xs =
    fault_of (outcome_of_symbols (goals_after (steps (symbols_of xs) goals_of_document []) symbols_at_start (symbols_of xs)) 0 [] (closings_of_all (open_at_end xs)))

built_fault : (xs : List LexemeValue) (o : DocumentOutcome) → (built_by xs o).fault ≡ fault_told o
built_fault xs (Events es) = refl
built_fault xs (Fails f) = refl

document_fault : (xs : List LexemeValue) → 0 < length xs
    → (document_of xs).fault ≡ fault_told (outcome_of_symbols symbols_at_start 0 start_events (marks_by_lines marker_at_start (by_line (map token_of xs))))
document_fault [] h = absurd (omega (arith, h))
document_fault (x ∷ xs) h = built_fault (x ∷ xs) (document_outcome_of_lines parser_at_start start_events (by_line (map token_of (x ∷ xs))))

pub fault_is : (xs : List LexemeValue) → 0 < length xs → (document_of xs).fault ≡ fault_or (fault_among xs) (fault_after (length xs) (fault_at_end xs))
fault_is xs h =
    let rows = by_line (map token_of xs) in
    let ws = symbols_of xs in
    document_fault xs h
    ∙ told_apart symbols_at_start 0 start_events (marks_by_lines marker_at_start rows)
    ∙ ap (λ (vs : List Symbol). fault_told (outcome_of_symbols symbols_at_start 0 [] vs)) (closed_after key_marker_at_start rows)
    ∙ fault_of_both symbols_at_start ws (open_at_end xs) (steps ws goals_of_document []) (rows_whole marker_at_start rows) refl
    ∙ ap (λ n. fault_or (fault_among xs) (fault_after n (fault_at_end xs))) (rows_count marker_at_start (map token_of xs) ∙ length-map xs token_of)
