-- The goals of the parser after the first rows of a section say which collections are open there.
use Rattle.std.proofs.Common.{◌≡◌, List, [], ◌∷◌, map, reverse, refl, sym, ◌∙◌, ap, Option, Some, None}
use Rattle.std.proofs.lemmas.List.{map-append, reverse-append}
use Rattle.yl_lexeme.specs.Lexeme.{LexemeValue}
use Rattle.yl_marks.specs.declared.symbol.Symbol.{Symbol}
use Rattle.yl_events.specs.declared.symbol.Goal.{Goal}
use Rattle.yl_events.specs.declared.symbol.Outline.{Outline}
use Rattle.yl_events.specs.DocumentOutcome.{steps}
use Rattle.yl_events.specs.Event.{event_of_outline}
use Rattle.yl_events.specs.Machine.{ParserState}
use Rattle.yl_tree.specs.OpenNodes.{collections_behind, with_event}
use Rattle.yl_record.specs.Records.{RecordValue}
use Rattle.yl_sections.specs.Sections.{lexemes_from}
use Rattle.yl_open_collections.specs.Counted.{after_events}
use Rattle.yl_open_collections.specs.OpenBy.{event_shapes, kind_shape, kinds_and_turns, open_by, shapes}
use Rattle.yl_open_collections.proofs.OpenBy.{goals_open_collections}
use Rattle.yl_pieces.specs.Edit.{after_front}
use Rattle.yl_pieces.specs.Events.{event_alone, outlines_told, start_event}
use Rattle.yl_pieces.specs.State.{start_state}
use Rattle.yl_pieces.specs.Told.{fault_at, fault_in, goals_after, symbols_in}
use Rattle.yl_piece_names.specs.OpeningEvents.{opened_by, opening_of}
use Rattle.yl_piece_names.specs.RowsPatched.{open_behind}
use Rattle.yl_piece_names.proofs.OpeningEvents.{goals_open}

-- ---- goals in their order

map-reversed : {X Y : Type 0} (f : X → Y) (xs : List X) → reverse (map f (reverse xs)) ≡ map f xs
map-reversed f [] = refl
map-reversed f (x ∷ xs) =
    ap (λ ys. reverse (map f ys)) (reverse-append (x ∷ []) xs)
    ∙ ap reverse (map-append f (reverse xs) (x ∷ []))
    ∙ reverse-append (map f (reverse xs)) (f x ∷ [])
    ∙ ap (λ ys. f x ∷ ys) (map-reversed f xs)

-- the goals of a parser, the innermost last
pub goals_say : (goals : List Goal) (items : List Goal) → reverse items ≡ goals → opened_by (map opening_of items) ≡ open_by goals
goals_say goals items is =
    ap opened_by (sym (map-reversed opening_of items)) ∙ ap (λ gs. opened_by (reverse (map opening_of gs))) is ∙ goals_open goals

-- ---- after rows

-- anchors have no part in shapes
shapes_alone : (xs : List LexemeValue) (os : List Outline) → event_shapes (map (event_alone xs) os) ≡ shapes os
shapes_alone xs os = alike os ∙ goals_open_collections.named xs os
  where
    alike : (ps : List Outline) → event_shapes (map (event_alone xs) ps) ≡ event_shapes (map (λ p. event_of_outline xs p) ps)
    alike [] = refl
    alike (p ∷ ps) = ap (λ ks. kind_shape (event_of_outline xs p).kind ∷ ks) (alike ps)

by_steps : (xs : List LexemeValue) (ws : List Symbol) (r : Option ParserState) → steps ws start_state.parser.goals [] ≡ r → fault_at start_state.parser ws r ≡ None
    → kinds_and_turns (after_events (collections_behind []) (start_event ∷ map (event_alone xs) (outlines_told r))) ≡ open_by (goals_after r start_state.parser ws).goals
by_steps xs ws None is none = absurd (cc)
by_steps xs ws (Some t) is none =
    let s = goals_open_collections.symbols ws start_state.parser.goals [] t is in
    s.follows (with_event start_event (collections_behind [])) (map (event_alone xs) t.events) (shapes_alone xs t.events ∙ ap shapes s.appended) refl
    ∙ sym (goals_open_collections.states t.goals)

pub open_after_front : (front : List RecordValue) → fault_in start_state 0 front ≡ None → kinds_and_turns (open_behind front) ≡ open_by (after_front front).parser.goals
open_after_front front none = let ws = symbols_in start_state 0 front in by_steps (lexemes_from 0 front) ws (steps ws start_state.parser.goals []) refl none
