-- Bridge: nodes and entries as the code represents them, by the indices of events.
use Rattle.std.specs.Prelude.{ℕ, List, drop, map}
use Rattle.yl_events.specs.declared.event.Event.{Event}
use Rattle.yl_events.specs.Event.{event_value, kind_value}
use Rattle.yl_settings.specs.declared.node.Item.{Item}
use Rattle.yl_settings.specs.declared.node.EntryAt.{EntryAt}
use Rattle.yl_settings.specs.Nodes.{Nodes, ItemValue, EntryValue, nodes_from}

-- the nodes from the event of this index on, up to the end of the collection that contains them
abbrev pub nodes_at : List Event → ℕ → Nodes
nodes_at events at = nodes_from (map event_value (drop at events))

abbrev pub item_value : List Event → Item → ItemValue
item_value events x = record { kind = kind_value x.kind; place = x.place; inside = nodes_at events x.inside }

abbrev pub entry_value : List Event → EntryAt → EntryValue
entry_value events x = record { key = kind_value x.key; key_place = x.key_place; value = item_value events x.value }
