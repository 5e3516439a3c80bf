-- Which collections are open, by what the parser has still to read.
use Rattle.std.proofs.Common.{◌≡◌, List, [], ◌∷◌, ◌++◌, map, reverse, refl, sym, ◌∙◌, ap, append_assoc, append-nil, Some, None}
use Rattle.std.proofs.lemmas.List.{reverse-append}
use Rattle.yl_lexeme.specs.Lexeme.{LexemeValue}
use Rattle.yl_marks.specs.declared.symbol.Symbol.{Symbol}
use Rattle.yl_events.specs.declared.symbol.Goal.{Goal}
use Rattle.yl_events.specs.declared.symbol.Outline.{Outline}
use Rattle.yl_events.specs.declared.symbol.Shape.TheVariants as shape
use Rattle.yl_events.specs.Outlines.{bare_event}
use Rattle.yl_events.specs.Machine.{ParserState, goals_of_document}
use Rattle.yl_events.specs.DocumentOutcome.{steps}
use Rattle.yl_events.specs.Event.{EventValue, event_of_outline}
use Rattle.yl_tree.specs.OpenNodes.{OpenNodes, collections_behind}
use Rattle.yl_open_collections.specs.Counted.{after_events}
use Rattle.yl_open_collections.specs.OpenBy.{kinds_and_turns, open_by, event_shapes, shapes, StaysOpenBy, GoalsOpenCollections}
use Rattle.yl_open_collections.proofs.Turns.{after_shapes, named, seen, turns_after, turns_alike}
use Rattle.yl_open_collections.proofs.Goals.{open_again, same_state}
use Rattle.yl_open_collections.proofs.Told.{Reaches, reached, steps_reach}

module _ (ws : List Symbol) (goals : List Goal) (out : List Outline) (t : ParserState) (taken : steps ws goals out ≡ Some t) where
  reaches : Reaches (open_by goals) out t
  reaches = reached goals out (steps ws goals out) t (steps_reach ws goals out) taken

  follows : (s : OpenNodes) (es : List EventValue) → event_shapes es ≡ shapes reaches.told → kinds_and_turns s ≡ open_by goals → kinds_and_turns (after_events s es) ≡ open_by t.goals
  follows s es same is = turns_after s es ∙ (λ i. after_shapes (is i) (same i)) ∙ reaches.leads

  stays : StaysOpenBy goals out t
  stays = record { told = reaches.told; appended = reaches.appended; follows = follows }

module _ (xs : List LexemeValue) where
  from_goals : (ws : List Symbol) (goals : List Goal) (t : ParserState) → steps ws goals [] ≡ Some t
      → kinds_and_turns (after_events (open_by goals) (map (event_of_outline xs) t.events)) ≡ open_by t.goals
  from_goals ws goals t taken =
      let s = stays ws goals [] t taken in
      s.follows (open_by goals) (map (event_of_outline xs) t.events) (named xs t.events ∙ ap shapes s.appended) (open_again goals)

  -- ---- from a document's start on

  behind : (es before : List EventValue) → after_events (collections_behind before) es ≡ collections_behind (reverse es ++ before)
  behind [] before = refl
  behind (e ∷ es) before = behind es (e ∷ before) ∙ ap collections_behind (sym (ap (λ fs. fs ++ before) (reverse-append (e ∷ []) es) ∙ append_assoc (reverse es) (e ∷ []) before))

  abbrev start : List Outline
  start = bare_event shape.DocumentStart None ∷ []

  from_start : (ws : List Symbol) (t : ParserState) → steps ws goals_of_document (bare_event shape.DocumentStart None ∷ []) ≡ Some t
      → kinds_and_turns (collections_behind (reverse (map (event_of_outline xs) t.events))) ≡ open_by t.goals
  from_start ws t taken =
      let s = stays ws goals_of_document start t taken in
      sym (ap kinds_and_turns (behind (map (event_of_outline xs) t.events) [] ∙ ap collections_behind (append-nil (reverse (map (event_of_outline xs) t.events)))))
      ∙ ap (λ os. kinds_and_turns (after_events (collections_behind []) (map (event_of_outline xs) os))) s.appended
      ∙ s.follows (after_events (collections_behind []) (map (event_of_outline xs) start)) (map (event_of_outline xs) s.told) (named xs s.told) refl

-- ---- the law

pub goals_open_collections : GoalsOpenCollections
goals_open_collections = record {
  whole = open_again;
  alike = turns_alike;
  named = named;
  seen = seen;
  symbols = stays;
  events = from_goals;
  document = from_start;
  states = same_state;
}
