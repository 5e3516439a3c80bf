-- What is told of a document is what the grammar says of it.
use Rattle.std.specs.Prelude.{◌≡◌, ◌+◌, refl, List, [], map, Option, Some, None}
use Rattle.std.proofs.Common.{sym, ◌∙◌, ap, subst, arith}
use Rattle.yl_lexeme.specs.Lexeme.{LexemeValue}
use Rattle.yl_marks.specs.declared.symbol.Symbol.{Symbol}
use Rattle.yl_marks.specs.Keys.{token_of}
use Rattle.yl_marks.specs.Marks.{symbols_of_lexemes}
use Rattle.yl_marks.specs.ByLine.{by_line}
use Rattle.yl_marks.proofs.ByLines.{marked_by_lines}
use Rattle.yl_events.specs.declared.fault.PlacedParseFault.{PlacedParseFault}
use Rattle.yl_events.specs.declared.symbol.Outline.{Outline}
use Rattle.yl_events.specs.Built.{Builds}
use Rattle.yl_events.specs.Event.{EventValue}
use Rattle.yl_events.specs.Derives.{Derives, HasFaultAt}
use Rattle.yl_events.specs.Faults.{fault_of}
use Rattle.yl_events.specs.Machine as m
use Rattle.yl_events.specs.Machine.{run, taken_count, fault_place}
use Rattle.yl_events.specs.Trail.{no_trail}
use Rattle.yl_events.specs.DocumentOutcome.{Events, Fails, document_outcome, outcome_by}
use Rattle.yl_events.specs.Parsing.{parser_at_start, start_events, document_outcome_of_lines, IsOutcome, Gives}
use Rattle.yl_events.proofs.Answered.{sound, fault}
use Rattle.yl_events.proofs.Trails.{fault_by_trail}

gives_run : (xs : List LexemeValue) (r : Option (List Outline)) → r ≡ run (symbols_of_lexemes xs) m.goals_of_document start_events →
    Gives xs (document_outcome no_trail 0 (fault_place (symbols_of_lexemes xs)) (symbols_of_lexemes xs) r)
gives_run xs (Some es) e = sound (symbols_of_lexemes xs) _ (sym (ap m.events_with_end e))
gives_run xs None e =
    let ws = symbols_of_lexemes xs in
    let n = fault_place ws in
    let here : n ≡ 0 + n = omega arith in
    record {
      place = subst (HasFaultAt ws) here (fault ws (sym (ap m.events_with_end e)));
      kind = fault_by_trail ws n ∙ ap (fault_of ws) here;
    }

-- line by line
pub gives : (xs : List LexemeValue) → Gives xs (document_outcome_of_lines parser_at_start start_events (by_line (map token_of xs)))
gives xs =
    subst (λ ws. Gives xs (outcome_by no_trail 0 m.goals_of_document start_events ws)) (sym (marked_by_lines (map token_of xs)))
    (gives_run xs (run (symbols_of_lexemes xs) m.goals_of_document start_events) refl)

-- all at once
gives_marked : (xs : List LexemeValue) → Gives xs (outcome_by no_trail 0 m.goals_of_document start_events (symbols_of_lexemes xs))
gives_marked xs = gives_run xs (run (symbols_of_lexemes xs) m.goals_of_document start_events) refl

gives_symbols : (xs : List LexemeValue) (ws : List Symbol) → ws ≡ symbols_of_lexemes xs → Gives xs (outcome_by no_trail 0 m.goals_of_document start_events ws)
gives_symbols xs ws w = subst (λ us. Gives xs (outcome_by no_trail 0 m.goals_of_document start_events us)) (sym w) (gives_marked xs)

pub told_events : (xs : List LexemeValue) (ws : List Symbol) (es : List Outline) → ws ≡ symbols_of_lexemes xs →
    outcome_by no_trail 0 m.goals_of_document start_events ws ≡ Events es → Derives (symbols_of_lexemes xs) es
told_events xs ws es w e = subst (Gives xs) e (gives_symbols xs ws w)

pub fault_built : (xs : List LexemeValue) (ws : List Symbol) (fault : Option PlacedParseFault) (f : PlacedParseFault) (out : List Outline) (es : List EventValue) → ws ≡ symbols_of_lexemes xs →
    IsOutcome (outcome_by no_trail 0 m.goals_of_document start_events ws) fault out → fault ≡ Some f → es ≡ [] → Builds xs es (Some f)
fault_built xs ws fault f out es w h e none =
    let fails : outcome_by no_trail 0 m.goals_of_document start_events ws ≡ Fails f = subst (λ r. IsOutcome (outcome_by no_trail 0 m.goals_of_document start_events ws) r out) e h in
    (subst (Gives xs) fails (gives_symbols xs ws w), none)
