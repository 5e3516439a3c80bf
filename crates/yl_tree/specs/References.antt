-- Bridge: the events that the rule anchors has to look at, and what it keeps of them.
use Rattle.std.specs.Prelude.{ℕ, Bool, false, ◌||◌, is_some, List, Option, Some, None}
use Rattle.yl_events.specs.Event.{EventValue, EventAnchorValue, EventKindValue, AliasOf, Empty}
use Rattle.yl_tree.specs.declared.reference.KeptAnchor.{KeptAnchor}
use Rattle.yl_tree.specs.declared.reference.Reference.{Reference}
use Rattle.yl_tree.specs.Anchors.{is_alias_event}

-- the event has an anchor or is an alias
abbrev pub is_reference : EventValue → Bool
is_reference e = is_some e.anchor || is_alias_event e.kind

-- ---- the references of the code

abbrev pub alias_kind : Option (List ℕ) → EventKindValue
alias_kind None = Empty
alias_kind (Some name) = AliasOf name

abbrev pub kept_anchor_value : {A : Type 0} → Option (KeptAnchor A) → Option EventAnchorValue
kept_anchor_value None = None
kept_anchor_value (Some a) = Some (record { name = a.name; place = a.place })

abbrev pub reference_value : {A : Type 0} → Reference A → EventValue
reference_value r = record {
  kind = alias_kind r.alias;
  place = r.place;
  anchor = kept_anchor_value r.anchor;
  is_tagged = false;
}
