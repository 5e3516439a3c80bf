-- What the parser tells of symbols leads from the collections that its goals say are open to those
-- of its goals after them.
use Rattle.std.specs.Prelude.{IfSome}
use Rattle.std.proofs.Common.{◌≡◌, List, [], ◌∷◌, ◌++◌, refl, sym, ◌∙◌, ap, append_assoc, append-nil, Option, Some, None}
use Rattle.std.proofs.lemmas.List.{map-append}
use Rattle.yl_marks.specs.declared.symbol.Symbol.{Symbol}
use Rattle.yl_events.specs.declared.symbol.Goal.{Goal}
use Rattle.yl_events.specs.declared.symbol.Outline.{Outline}
use Rattle.yl_events.specs.Outlines.{◌then◌}
use Rattle.yl_events.specs.Machine as m
use Rattle.yl_events.specs.Machine.{Turn, ParserState, takes, leaves, step}
use Rattle.yl_events.specs.DocumentOutcome.{steps, steps_onto}
use Rattle.yl_tree.specs.OpenNodes.{OpenNodes}
use Rattle.yl_open_collections.specs.OpenBy.{open_by, shapes}
use Rattle.yl_open_collections.proofs.Turns.{after_shapes, after_both}
use Rattle.yl_open_collections.proofs.Goals.{Leads, goal_leads, goal_left, open_over}

then_appends : (out es : List Outline) → (out then es) ≡ out ++ es
then_appends out [] = sym (append-nil out)
then_appends out (e ∷ es) = then_appends (out ++ e ∷ []) es ∙ append_assoc out (e ∷ []) es

-- the events of the state are those that were told before and these, which lead from the open
-- collections to those that its goals say
pub record Reaches (from : OpenNodes) (out : List Outline) (t : ParserState) : Type 0 where
  pub told : List Outline
  pub appended : t.events ≡ out ++ told
  pub leads : after_shapes from (shapes told) ≡ open_by t.goals

abbrev pub Stepped : OpenNodes → List Outline → Option ParserState → Type 0
Stepped from out r = IfSome r (Reaches from out)

-- first these outlines, and then others
reaches_on : (from mid : OpenNodes) (out out' es : List Outline) (t : ParserState) → out' ≡ out ++ es → after_shapes from (shapes es) ≡ mid → Reaches mid out' t → Reaches from out t
reaches_on from mid out out' es t is leads h = record {
  told = es ++ h.told;
  appended = h.appended ∙ ap (λ os. os ++ h.told) is ∙ append_assoc out es h.told;
  leads =
      ap (after_shapes from) (map-append (λ (o : Outline). o.kind) es h.told)
      ∙ after_both from (shapes es) (shapes h.told)
      ∙ ap (λ s. after_shapes s (shapes h.told)) leads
      ∙ h.leads;
}

stepped_on : (from mid : OpenNodes) (out out' es : List Outline) (r : Option ParserState) → out' ≡ out ++ es → after_shapes from (shapes es) ≡ mid → Stepped mid out' r → Stepped from out r
stepped_on from mid out out' es None is leads h = tt
stepped_on from mid out out' es (Some t) is leads h = reaches_on from mid out out' es t is leads h

turned : (from : OpenNodes) (goals : List Goal) (out : List Outline) (next : List Outline → Option ParserState) (t : Option Turn) (left : Option (List Outline))
    → Leads from (open_by goals) t → IfSome left (λ es. after_shapes from (shapes es) ≡ open_by goals)
    → ((out' : List Outline) → Stepped (open_by goals) out' (next out')) → Stepped from out (m.state_after_turn goals out next t left)
turned from goals out next (Some t) left h l rest = record {
  told = t.events;
  appended = then_appends out t.events;
  leads = h ∙ sym (open_over t.goals goals);
}
turned from goals out next None (Some es) h l rest = stepped_on from (open_by goals) out (out then es) es (next (out then es)) (then_appends out es) l (rest (out then es))
turned from goals out next None None h l rest = tt

step_reaches : (goals : List Goal) (out : List Outline) (x : Symbol) → Stepped (open_by goals) out (step goals out x)
step_reaches [] out x = tt
step_reaches (g ∷ goals) out x =
    turned (open_by (g ∷ goals)) goals out (λ o. step goals o x) (takes g x) (leaves g) (goal_leads (open_by goals) g x) (goal_left (open_by goals) g)
    (λ o. step_reaches goals o x)

onto : (from : OpenNodes) (out : List Outline) (next : ParserState → Option ParserState) (r : Option ParserState) → Stepped from out r
    → ((s : ParserState) → Stepped (open_by s.goals) s.events (next s)) → Stepped from out (steps_onto next r)
onto from out next None h rest = tt
onto from out next (Some s) h rest = stepped_on from (open_by s.goals) out s.events h.told (next s) h.appended h.leads (rest s)

pub steps_reach : (ws : List Symbol) (goals : List Goal) (out : List Outline) → Stepped (open_by goals) out (steps ws goals out)
steps_reach [] goals out = record { told = []; appended = sym (append-nil out); leads = refl }
steps_reach (w ∷ ws) goals out =
    onto (open_by goals) out (λ s. steps ws s.goals s.events) (step goals out w) (step_reaches goals out w) (λ s. steps_reach ws s.goals s.events)

pub reached : (goals : List Goal) (out : List Outline) (r : Option ParserState) (t : ParserState) → Stepped (open_by goals) out r → r ≡ Some t → Reaches (open_by goals) out t
reached goals out None t h is = cc
reached goals out (Some u) t h is = let same : u ≡ t = cc in rw (← same) h
