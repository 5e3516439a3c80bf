-- What symbols tell depends on the parser's state before them: both parsers tell what one in their
-- common state does at bare symbols.
use Rattle.std.specs.Prelude.{ℕ, ◌≡◌, ◌+◌, refl, List, [], ◌∷◌, ◌++◌, map, Option, Some, None, option_map}
use Rattle.std.proofs.Common.{sym, ◌∙◌, ap}
use Rattle.std.proofs.Math.Nat.{add_assoc, add_comm}
use Rattle.std.proofs.lemmas.List.{map-append}
use Rattle.std.proofs.lemmas.Simd.{map-map}
use Rattle.yl_lexeme.specs.declared.lexeme.Kind.{Kind}
use Rattle.yl_marks.specs.declared.symbol.Symbol.{Symbol}
use Rattle.yl_marks.specs.declared.symbol.Symbol.TheVariants.{OpenSequence, OpenMapping, BeginKey, Close, One}
use Rattle.yl_events.specs.declared.symbol.Outline.{Outline}
use Rattle.yl_events.specs.declared.symbol.Shape.TheVariants.{DocumentEnd}
use Rattle.yl_events.specs.Outlines.{end_event}
use Rattle.yl_events.specs.Machine.{ParserState, run, taken_count}
use Rattle.yl_events.specs.Trail.{TrailValue, trail_after, fault_from}
use Rattle.yl_events.specs.DocumentOutcome.{Events, Fails, document_outcome, steps}
use Rattle.yl_events.specs.SymbolParsing.{SymbolParserValue, outcome_of_symbols}
use Rattle.yl_events.specs.State.{goal_state, parser_state}
use Rattle.yl_marks.specs.MarksAlike.{symbol_after}
use Rattle.yl_events.specs.ParsedAlike.{symbols_after, outline_shape, outline_after, outcome_shape, outcome_after, steps_shape, steps_after, SymbolsAreParsedAlike}
use Rattle.yl_events.proofs.ParsedAlikeSteps.{bare_index, bare_symbol, bare_outline, bare_events, bare_state, run_bare, taken_bare, steps_bare}
use Rattle.yl_events.proofs.ParsedAlikeFaults.{trail_bare, fault_bare}

-- bare symbols, whose places count from this lexeme on
abbrev bare_from : ℕ → List Symbol → List Symbol
bare_from n ws = map (bare_symbol (λ i. n + i)) ws

-- ---- symbols

index_bare : (n m : ℕ) (kind : Kind) (i : ℕ) → bare_index (λ k. n + k) kind (m + i) ≡ bare_index (λ k. n + m + k) kind i
index_bare n m Kind.Anchor i = refl
index_bare n m Kind.Tag i = refl
index_bare n m kind i = sym (add_assoc n m i)

symbol_bare : (n m : ℕ) (w : Symbol) → bare_symbol (λ i. n + i) (symbol_after m w) ≡ bare_symbol (λ i. n + m + i) w
symbol_bare n m (OpenSequence i) = ap OpenSequence (sym (add_assoc n m i))
symbol_bare n m (OpenMapping i) = ap OpenMapping (sym (add_assoc n m i))
symbol_bare n m (BeginKey i) = ap BeginKey (sym (add_assoc n m i))
symbol_bare n m Close = refl
symbol_bare n m (One kind i) = ap (One kind) (index_bare n m kind i)

symbols_bare : (n m : ℕ) (ws : List Symbol) → bare_from n (symbols_after m ws) ≡ bare_from (n + m) ws
symbols_bare n m [] = refl
symbols_bare n m (w ∷ ws) =
    ap (λ x. x ∷ bare_from n (symbols_after m ws)) (symbol_bare n m w) ∙ ap (λ xs. bare_symbol (λ i. n + m + i) w ∷ xs) (symbols_bare n m ws)

-- ---- what is told

outlines_bare : (n : ℕ) (es : List Outline) → map (outline_after n) (map outline_shape es) ≡ bare_events (λ i. n + i) es
outlines_bare n es = map-map (outline_after n) outline_shape es

outcome_bare : (t : TrailValue) (n count place : ℕ) (ws : List Symbol) (r : Option (List Outline)) →
    outcome_after n (outcome_shape (document_outcome t count place ws r))
    ≡ document_outcome t (n + count) place (bare_from n ws) (option_map (λ es. bare_events (λ i. n + i) es) r)
outcome_bare t n count place ws (Some es) =
    ap Events (outlines_bare n (es ++ end_event DocumentEnd ∷ []) ∙ map-append (bare_outline (λ i. n + i)) es (end_event DocumentEnd ∷ []))
outcome_bare t n count place ws None =
    ap (λ k. Fails (record { kind = fault_from t place ws; place = k })) (sym (add_assoc n count place))
    ∙ ap (λ k. Fails (record { kind = k; place = n + count + place })) (sym (fault_bare (λ i. n + i) t place ws))

told_bare : (p : SymbolParserValue) (n count : ℕ) (ws : List Symbol) →
    outcome_after n (outcome_shape (outcome_of_symbols p count [] ws)) ≡ outcome_of_symbols (parser_state p) (n + count) [] (bare_from n ws)
told_bare p n count ws =
    outcome_bare p.trail n count (taken_count ws p.goals []) ws (run ws p.goals [])
    ∙ ap (λ k. document_outcome p.trail (n + count) k (bare_from n ws) (option_map (λ es. bare_events (λ i. n + i) es) (run ws p.goals [])))
    (sym (taken_bare (λ i. n + i) ws p.goals []))
    ∙ ap (document_outcome p.trail (n + count) (taken_count (bare_from n ws) (parser_state p).goals []) (bare_from n ws)) (sym (run_bare (λ i. n + i) ws p.goals []))

told_steps_bare : (n : ℕ) (s : Option ParserState) → steps_after n (steps_shape s) ≡ bare_state (λ i. n + i) s
told_steps_bare n None = refl
told_steps_bare n (Some s) = ap (λ es. Some (record { goals = map goal_state s.goals; events = es })) (outlines_bare n s.events)

-- ---- from both sides

told_after : (p : SymbolParserValue) (n m : ℕ) (ws : List Symbol) →
    outcome_after n (outcome_shape (outcome_of_symbols p m [] (symbols_after m ws))) ≡ outcome_of_symbols (parser_state p) (n + m) [] (bare_from (n + m) ws)
told_after p n m ws =
    told_bare p n m (symbols_after m ws) ∙ ap (outcome_of_symbols (parser_state p) (n + m) []) (symbols_bare n m ws)

left_after : (p : SymbolParserValue) (n m : ℕ) (ws : List Symbol) →
    steps_after n (steps_shape (steps (symbols_after m ws) p.goals [])) ≡ steps (bare_from (n + m) ws) (parser_state p).goals []
left_after p n m ws =
    told_steps_bare n (steps (symbols_after m ws) p.goals [])
    ∙ sym (steps_bare (λ i. n + i) (symbols_after m ws) p.goals [])
    ∙ ap (λ xs. steps xs (parser_state p).goals []) (symbols_bare n m ws)

trail_moved : (t : TrailValue) (n m : ℕ) (ws : List Symbol) → trail_after t (symbols_after m ws) ≡ trail_after t (bare_from (n + m) ws)
trail_moved t n m ws = sym (trail_bare (λ i. n + i) t (symbols_after m ws)) ∙ ap (trail_after t) (symbols_bare n m ws)

pub parsed_alike : SymbolsAreParsedAlike
parsed_alike p q m n ws same = record {
  outcome =
      told_after p n m ws
      ∙ ap (λ s. outcome_of_symbols s (n + m) [] (bare_from (n + m) ws)) same
      ∙ ap (λ k. outcome_of_symbols (parser_state q) k [] (bare_from k ws)) (add_comm n m)
      ∙ sym (told_after q m n ws);
  after =
      left_after p n m ws
      ∙ ap (λ s. steps (bare_from (n + m) ws) s.goals []) same
      ∙ ap (λ k. steps (bare_from k ws) (parser_state q).goals []) (add_comm n m)
      ∙ sym (left_after q m n ws);
  trail =
      trail_moved p.trail n m ws
      ∙ ap (λ s. trail_after s.trail (bare_from (n + m) ws)) same
      ∙ ap (λ k. trail_after q.trail (bare_from k ws)) (add_comm n m)
      ∙ sym (trail_moved q.trail m n ws);
}
