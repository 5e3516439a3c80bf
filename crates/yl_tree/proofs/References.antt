-- Where no event has an anchor or is an alias, the rule anchors finds nothing.
use Rattle.std.proofs.Common.{◌≡◌, List, [], ◌∷◌, ◌++◌, map, refl, ◌∙◌, ap, Bool, true, false, ◌||◌, Option, Some, None}
use Rattle.std.specs.Prelude.{is_some}
use Rattle.std.specs.List.{list_any}
use Rattle.yl_text.specs.Finding.{FindingValue, at_each}
use Rattle.yl_events.specs.declared.event.Event.{Event}
use Rattle.yl_events.specs.Event.{EventValue, EventKindValue, EventAnchorValue, event_value, DocumentStart, DocumentEnd, SequenceStart, SequenceEnd, MappingStart, MappingEnd, AliasOf, ScalarOf, Empty}
use Rattle.yl_tree.specs.declared.options.AnchorsOptions.{AnchorsOptions}
use Rattle.yl_tree.specs.Anchors.{anchor_findings, anchors_at, undeclared_alias, is_alias_event}
use Rattle.yl_tree.specs.References.{is_reference}

pub both_false : (a b : Bool) → (a || b) ≡ false → (a ≡ false) × (b ≡ false)
both_false false b e = (refl, e)
both_false true b e = cc

no_alias : (o : AnchorsOptions) (before : List EventValue) (e : EventValue) (kind : EventKindValue)
    → is_alias_event kind ≡ false → undeclared_alias o before e kind ≡ []
no_alias o before e (AliasOf name) none = cc
no_alias o before e DocumentStart none = refl
no_alias o before e DocumentEnd none = refl
no_alias o before e SequenceStart none = refl
no_alias o before e SequenceEnd none = refl
no_alias o before e MappingStart none = refl
no_alias o before e MappingEnd none = refl
no_alias o before e (ScalarOf style value) none = refl
no_alias o before e Empty none = refl

no_anchor : (o : AnchorsOptions) (before : List EventValue) (anchor : Option EventAnchorValue)
    (after : List EventValue) → is_some anchor ≡ false → anchor_findings o before anchor after ≡ []
no_anchor o before None after none = refl
no_anchor o before (Some anchor) after none = cc

pub nothing_at : (o : AnchorsOptions) (before : List EventValue) (e : EventValue)
    (after : List EventValue) → is_reference e ≡ false → anchors_at o before e after ≡ []
nothing_at o before e after none =
    let parts = both_false (is_some e.anchor) (is_alias_event e.kind) none in
    ap (λ (fs : List FindingValue). fs ++ anchor_findings o before e.anchor after)
    (no_alias o before e e.kind parts.1)
    ∙ no_anchor o before e.anchor after parts.0

pub nothing_found : (o : AnchorsOptions) (before : List EventValue) (es : List Event)
    → list_any (λ e. is_reference (event_value e)) es ≡ false
    → at_each (anchors_at o) before (map event_value es) ≡ []
nothing_found o before [] none = refl
nothing_found o before (e ∷ es) none =
    let later = map event_value es in
    let parts = both_false (is_reference (event_value e))
    (list_any (λ x. is_reference (event_value x)) es) none in
    ap (λ (fs : List FindingValue). fs ++ at_each (anchors_at o) (event_value e ∷ before) later)
    (nothing_at o before (event_value e) later parts.0)
    ∙ nothing_found o (event_value e ∷ before) es parts.1
