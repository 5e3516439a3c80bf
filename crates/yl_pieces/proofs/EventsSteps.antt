-- What the parser tells of symbols, and then of those after them.
use Rattle.std.proofs.Common.{◌≡◌, ℕ, List, [], ◌∷◌, ◌++◌, map, Option, Some, None, refl, sym, ◌∙◌, ap, append-nil, append_assoc}
use Rattle.yl_marks.specs.declared.symbol.Symbol.{Symbol}
use Rattle.yl_events.specs.declared.symbol.Goal.{Goal}
use Rattle.yl_events.specs.declared.symbol.Outline.{Outline}
use Rattle.yl_events.specs.DocumentOutcome.{steps, steps_onto}
use Rattle.yl_events.specs.Machine.{ParserState, Turn, leaves, state_after_turn, step, takes}
use Rattle.yl_events.specs.Outlines.{◌then◌}
use Rattle.yl_events.specs.ParsedAlike.{AreParsedAlike, outline_after, outline_shape, steps_after, steps_shape, symbols_after}
use Rattle.yl_events.specs.State.{parser_state}
use Rattle.yl_events.specs.SymbolParsing.{SymbolParserValue}
use Rattle.yl_events.specs.Trail.{TrailValue}
use Rattle.yl_events.proofs.ParsedAlike.{parsed_alike}
use Rattle.yl_events.proofs.States.{goals_again}
use Rattle.yl_pieces.specs.Events.{outlines_told}
use Rattle.yl_pieces.proofs.JoinedMarks.{same_symbols}

-- ---- outlines that were told before

module _ (before : List Outline) where
  abbrev told_before : Option ParserState → Option ParserState
  told_before None = None
  told_before (Some s) = Some (record { goals = s.goals; events = before ++ s.events })

  then_before : (out es : List Outline) → (before ++ out then es) ≡ before ++ (out then es)
  then_before out [] = refl
  then_before out (e ∷ es) = ap (λ o. o then es) (append_assoc before out (e ∷ [])) ∙ then_before (out ++ e ∷ []) es

  turn_before : (goals : List Goal) (out : List Outline) (next : List Outline → Option ParserState) (t : Option Turn) (left : Option (List Outline))
      → ((o : List Outline) → next (before ++ o) ≡ told_before (next o))
      → state_after_turn goals (before ++ out) next t left ≡ told_before (state_after_turn goals out next t left)
  turn_before goals out next (Some t) left h = ap (λ o. Some (record { goals = t.goals ++ goals; events = o })) (then_before out t.events)
  turn_before goals out next None (Some es) h = ap next (then_before out es) ∙ h (out then es)
  turn_before goals out next None None h = refl

  step_before : (goals : List Goal) (out : List Outline) (w : Symbol) → step goals (before ++ out) w ≡ told_before (step goals out w)
  step_before [] out w = refl
  step_before (g ∷ goals) out w = turn_before goals out (λ o. step goals o w) (takes g w) (leaves g) (λ o. step_before goals o w)

  onto_before : (next : ParserState → Option ParserState) (r : Option ParserState)
      → ((s : ParserState) → next (record { goals = s.goals; events = before ++ s.events }) ≡ told_before (next s)) → steps_onto next (told_before r) ≡ told_before (steps_onto next r)
  onto_before next None h = refl
  onto_before next (Some s) h = h s

  steps_before : (ws : List Symbol) (goals : List Goal) (out : List Outline) → steps ws goals (before ++ out) ≡ told_before (steps ws goals out)
  steps_before [] goals out = refl
  steps_before (w ∷ ws) goals out =
      ap (steps_onto (λ s. steps ws s.goals s.events)) (step_before goals out w)
      ∙ onto_before (λ s. steps ws s.goals s.events) (step goals out w) (λ s. steps_before ws s.goals s.events)

-- ---- symbols after others

onto_both : (r : Option ParserState) (next more all : ParserState → Option ParserState) → ((s : ParserState) → all s ≡ steps_onto more (next s)) → steps_onto all r ≡ steps_onto more (steps_onto next r)
onto_both None next more all h = refl
onto_both (Some s) next more all h = h s

steps_both : (ws vs : List Symbol) (goals : List Goal) (out : List Outline) → steps (ws ++ vs) goals out ≡ steps_onto (λ s. steps vs s.goals s.events) (steps ws goals out)
steps_both [] vs goals out = refl
steps_both (w ∷ ws) vs goals out =
    onto_both (step goals out w) (λ s. steps ws s.goals s.events) (λ s. steps vs s.goals s.events) (λ s. steps (ws ++ vs) s.goals s.events) (λ s. steps_both ws vs s.goals s.events)

-- where all are taken, what is told of both is what is told of the ones and then of the others
pub told_both : (ws vs : List Symbol) (goals : List Goal) (t u : ParserState) → steps ws goals [] ≡ Some t → steps vs t.goals [] ≡ Some u
    → outlines_told (steps (ws ++ vs) goals []) ≡ outlines_told (steps ws goals []) ++ outlines_told (steps vs t.goals [])
told_both ws vs goals t u e f =
    ap outlines_told
    (steps_both ws vs goals []
    ∙ ap (steps_onto (λ s. steps vs s.goals s.events)) e
    ∙ ap (steps vs t.goals) (sym (append-nil t.events))
    ∙ steps_before t.events vs t.goals []
    ∙ ap (told_before t.events) f)
    ∙ ap (λ (os : List Outline). os ++ u.events) (sym (ap outlines_told e))
    ∙ ap (λ (os : List Outline). outlines_told (steps ws goals []) ++ os) (sym (ap outlines_told f))

-- ---- the same symbols after a state

pub shape_told : (n : ℕ) (r : Option ParserState) → outlines_told (steps_after n (steps_shape r)) ≡ map (outline_after n) (map outline_shape (outlines_told r))
shape_told n None = refl
shape_told n (Some s) = refl

taken_alike : (n : ℕ) (r : Option ParserState) (u : ParserState) → steps_after 0 (steps_shape r) ≡ steps_after n (steps_shape (Some u)) → (t : ParserState) × (r ≡ Some t)
taken_alike n None u e = cc
taken_alike n (Some t) u e = (t, refl)

abbrev parser_of : List Goal → TrailValue → SymbolParserValue
parser_of goals trail = record { goals = goals; trail = trail }

module _ (goals : List Goal) (trail : TrailValue) (n : ℕ) (vs : List Symbol) where
  abbrev held : SymbolParserValue
  held = parser_state (parser_of goals trail)

  alike : AreParsedAlike (parser_of goals trail) held n 0 vs
  alike = parsed_alike (parser_of goals trail) held n 0 vs (ap (λ (gs : List Goal). parser_of gs trail) (sym (goals_again goals held.goals refl)))

  after_alike : steps_after 0 (steps_shape (steps (symbols_after n vs) goals [])) ≡ steps_after n (steps_shape (steps vs held.goals []))
  after_alike = alike.after ∙ ap (λ (us : List Symbol). steps_after n (steps_shape (steps us held.goals []))) (same_symbols vs)

  pub taken_after : (u : ParserState) → steps vs held.goals [] ≡ Some u → (t : ParserState) × (steps (symbols_after n vs) goals [] ≡ Some t)
  taken_after u e = taken_alike n (steps (symbols_after n vs) goals []) u (after_alike ∙ ap (λ (r : Option ParserState). steps_after n (steps_shape r)) e)

  pub told_after : map (outline_after 0) (map outline_shape (outlines_told (steps (symbols_after n vs) goals []))) ≡ map (outline_after n) (map outline_shape (outlines_told (steps vs held.goals [])))
  told_after =
      sym (shape_told 0 (steps (symbols_after n vs) goals [])) ∙ ap outlines_told after_alike ∙ shape_told n (steps vs held.goals [])
