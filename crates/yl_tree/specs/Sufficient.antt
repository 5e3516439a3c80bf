-- Meaning: a law: the findings of the rule anchors depend, of each event, only on its place, its
-- anchor and, if it is an alias, its name.
use Rattle.std.specs.Prelude.{◌≡◌, false, List, map}
use Rattle.yl_events.specs.Event.{EventValue, EventKindValue, AliasOf, Empty}
use Rattle.yl_tree.specs.declared.options.AnchorsOptions.{AnchorsOptions}
use Rattle.yl_tree.specs.Anchors.{anchors}

-- the name of an alias, and nothing of any other kind
abbrev pub kept_kind : EventKindValue → EventKindValue
kept_kind (AliasOf name) = AliasOf name
kept_kind _ = Empty

-- the event with the parts that are kept
abbrev pub reference_of : EventValue → EventValue
reference_of e = record { kind = kept_kind e.kind; place = e.place; anchor = e.anchor; is_tagged = false }

abbrev pub ReferencesSuffice : Type 0
ReferencesSuffice = (o : AnchorsOptions) (es : List EventValue) → anchors o (map reference_of es) ≡ anchors o es
