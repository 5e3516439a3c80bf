-- What was told before stands in front of what is told.
use Rattle.std.specs.Prelude.{ℕ, ◌≡◌, ◌+◌, refl, List, [], ◌∷◌, ◌++◌, Option, Some, None}
use Rattle.std.proofs.Common.{sym, ◌∙◌, ap, append_assoc, append-nil}
use Rattle.yl_marks.specs.declared.symbol.Symbol.{Symbol}
use Rattle.yl_events.specs.declared.symbol.Goal.{Goal}
use Rattle.yl_events.specs.declared.symbol.Outline.{Outline}
use Rattle.yl_events.specs.declared.symbol.Shape.TheVariants.{DocumentEnd}
use Rattle.yl_events.specs.Derives.{lexeme_count}
use Rattle.yl_events.specs.Outlines.{◌then◌, end_event}
use Rattle.yl_events.specs.Machine as m
use Rattle.yl_events.specs.Machine.{Turn, ParserState, takes, leaves, state_after_turn, step, events_after_leaving, finish, run, taken_count}
use Rattle.yl_events.specs.Trail.{TrailValue}
use Rattle.yl_events.specs.DocumentOutcome.{DocumentOutcome, Events, Fails, document_outcome}
use Rattle.yl_events.specs.SymbolParsing.{SymbolParserValue, outcome_of_symbols, FeedsSymbols, told_behind}

module _ (before : List Outline) where
  -- a state and a list of events with those in front
  abbrev state_behind : Option ParserState → Option ParserState
  state_behind None = None
  state_behind (Some s) = Some (record { goals = s.goals; events = before ++ s.events })

  abbrev events_behind : Option (List Outline) → Option (List Outline)
  events_behind None = None
  events_behind (Some es) = Some (before ++ es)

  then_behind : (out es : List Outline) → (before ++ out then es) ≡ before ++ (out then es)
  then_behind out [] = refl
  then_behind out (e ∷ es) = ap (λ o. o then es) (append_assoc before out (e ∷ [])) ∙ then_behind (out ++ e ∷ []) es

  -- ---- a symbol

  turned : (goals : List Goal) (out : List Outline) (next : List Outline → Option ParserState) (t : Option Turn) (left : Option (List Outline)) →
      ((o : List Outline) → next (before ++ o) ≡ state_behind (next o)) →
      state_after_turn goals (before ++ out) next t left ≡ state_behind (state_after_turn goals out next t left)
  turned goals out next (Some t) left h = ap (λ o. Some (record { goals = t.goals ++ goals; events = o })) (then_behind out t.events)
  turned goals out next None (Some es) h = ap next (then_behind out es) ∙ h (out then es)
  turned goals out next None None h = refl

  step_behind : (goals : List Goal) (out : List Outline) (w : Symbol) → step goals (before ++ out) w ≡ state_behind (step goals out w)
  step_behind [] out w = refl
  step_behind (g ∷ goals) out w = turned goals out (λ o. step goals o w) (takes g w) (leaves g) (λ o. step_behind goals o w)

  -- ---- the end

  left_behind : (out : List Outline) (next : List Outline → Option (List Outline)) (left : Option (List Outline)) →
      ((o : List Outline) → next (before ++ o) ≡ events_behind (next o)) → events_after_leaving next (before ++ out) left ≡ events_behind (events_after_leaving next out left)
  left_behind out next None h = refl
  left_behind out next (Some es) h = ap next (then_behind out es) ∙ h (out then es)

  finish_behind : (goals : List Goal) (out : List Outline) → finish goals (before ++ out) ≡ events_behind (finish goals out)
  finish_behind [] out = refl
  finish_behind (g ∷ goals) out = left_behind out (λ o. finish goals o) (leaves g) (finish_behind goals)

  -- ---- all symbols

  onward_behind : (next : ParserState → Option (List Outline)) (r : Option ParserState) →
      ((s : ParserState) → next (record { goals = s.goals; events = before ++ s.events }) ≡ events_behind (next s)) → m.onward next (state_behind r) ≡ events_behind (m.onward next r)
  onward_behind next None h = refl
  onward_behind next (Some s) h = h s

  run_behind : (ws : List Symbol) (goals : List Goal) (out : List Outline) → run ws goals (before ++ out) ≡ events_behind (run ws goals out)
  run_behind [] goals out = finish_behind goals out
  run_behind (w ∷ ws) goals out =
      ap (m.onward (λ s. run ws s.goals s.events)) (step_behind goals out w)
      ∙ onward_behind (λ s. run ws s.goals s.events) (step goals out w) (λ s. run_behind ws s.goals s.events)

  count_behind : (w : Symbol) (next : ParserState → ℕ) (r : Option ParserState) →
      ((s : ParserState) → next (record { goals = s.goals; events = before ++ s.events }) ≡ next s) → m.count_then w next (state_behind r) ≡ m.count_then w next r
  count_behind w next None h = refl
  count_behind w next (Some s) h = ap (m.count_with w) (h s)

  taken_behind : (ws : List Symbol) (goals : List Goal) (out : List Outline) → taken_count ws goals (before ++ out) ≡ taken_count ws goals out
  taken_behind [] goals out = refl
  taken_behind (w ∷ ws) goals out =
      ap (m.count_then w (λ s. taken_count ws s.goals s.events)) (step_behind goals out w)
      ∙ count_behind w (λ s. taken_count ws s.goals s.events) (step goals out w) (λ s. taken_behind ws s.goals s.events)

  outcome_behind : (t : TrailValue) (count place : ℕ) (ws : List Symbol) (r : Option (List Outline)) →
      document_outcome t count place ws (events_behind r) ≡ told_behind before (document_outcome t count place ws r)
  outcome_behind t count place ws None = refl
  outcome_behind t count place ws (Some es) = ap Events (append_assoc before es (end_event DocumentEnd ∷ []))

  pub symbols_behind : (p : SymbolParserValue) (count : ℕ) (out : List Outline) (ws : List Symbol) →
      outcome_of_symbols p count (before ++ out) ws ≡ told_behind before (outcome_of_symbols p count out ws)
  symbols_behind p count out ws =
      ap (λ n. document_outcome p.trail count n ws (run ws p.goals (before ++ out))) (taken_behind ws p.goals out)
      ∙ ap (document_outcome p.trail count (taken_count ws p.goals out) ws) (run_behind ws p.goals out)
      ∙ outcome_behind p.trail count (taken_count ws p.goals out) ws (run ws p.goals out)

-- ---- for a caller that empties the list of what is told each time

pub told_none : (o : DocumentOutcome) → told_behind [] o ≡ o
told_none (Events es) = refl
told_none (Fails f) = refl

-- these symbols are taken: what they told stands in front of what the later ones tell
pub fed_apart : (p q : SymbolParserValue) (count : ℕ) (told : List Outline) (ws later : List Symbol) → FeedsSymbols p count [] ws None q told →
    outcome_of_symbols p count [] (ws ++ later) ≡ told_behind told (outcome_of_symbols q (count + lexeme_count ws) [] later)
fed_apart p q count told ws later h =
    h later ∙ ap (λ o. outcome_of_symbols q (count + lexeme_count ws) o later) (sym (append-nil told)) ∙ symbols_behind told q (count + lexeme_count ws) [] later

-- ---- the same of a line
