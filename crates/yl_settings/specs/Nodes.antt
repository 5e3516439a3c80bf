-- Meaning: the nodes of a document (YAML 1.2.2, 3.2.1), by its events.
use Rattle.std.specs.Prelude.{Bool, true, false, List, [], ◌∷◌, Option, None, if◌then◌else◌}
use Rattle.yl_text.specs.declared.position.Pos.{Pos}
use Rattle.yl_events.specs.Event.{EventValue, EventKindValue, DocumentStart, DocumentEnd, SequenceStart, SequenceEnd, MappingStart, MappingEnd}

-- nodes that follow each other: the kind, the place and the contents of the first, and the nodes
-- after it
pub data Nodes : Type 0 where
  NoNode : Nodes
  Node : (kind : EventKindValue) (place : Option Pos) (inside more : Nodes) → Nodes

-- a document contains its root as a collection contains its nodes
abbrev pub starts : EventKindValue → Bool
starts DocumentStart = true
starts SequenceStart = true
starts MappingStart = true
starts _ = false

abbrev pub ends : EventKindValue → Bool
ends DocumentEnd = true
ends SequenceEnd = true
ends MappingEnd = true
ends _ = false

abbrev pub starts_sequence : EventKindValue → Bool
starts_sequence SequenceStart = true
starts_sequence _ = false

abbrev pub starts_mapping : EventKindValue → Bool
starts_mapping MappingStart = true
starts_mapping _ = false

-- the nodes of the innermost collection, and those of the others (`outer`). Nested collections are
-- listed with the innermost first
abbrev pub innermost : List Nodes → Nodes
innermost [] = NoNode
innermost (nodes ∷ outer) = nodes

abbrev pub outer : List Nodes → List Nodes
outer [] = []
outer (nodes ∷ more) = more

-- these levels with one event before them
abbrev pub behind : EventValue → List Nodes → List Nodes
behind e levels =
    if starts e.kind then Node e.kind e.place (innermost levels) (innermost (outer levels)) ∷ outer (outer levels)
    else if ends e.kind then NoNode ∷ levels
    else Node e.kind e.place NoNode (innermost levels) ∷ outer levels

-- the nodes that begin in these events up to the end of the collection that contains them, then
-- those after that collection, and so on outwards
unfoldable pub levels_from : List EventValue → List Nodes
levels_from [] = []
levels_from (e ∷ es) = behind e (levels_from es)

abbrev pub nodes_from : List EventValue → Nodes
nodes_from es = innermost (levels_from es)

-- a node
pub record ItemValue : Type 0 where
  pub kind : EventKindValue
  pub place : Option Pos
  pub inside : Nodes

-- an entry of a mapping: its key's kind and place, and its value
pub record EntryValue : Type 0 where
  pub key : EventKindValue
  pub key_place : Option Pos
  pub value : ItemValue

abbrev pub entries_of : Nodes → List EntryValue
entries_of (Node key key_place key_inside (Node kind place inside more)) =
    record { key = key; key_place = key_place; value = record { kind = kind; place = place; inside = inside } } ∷ entries_of more
entries_of _ = []

-- the first node, or an end of a document if there is none
abbrev pub first_item : Nodes → ItemValue
first_item NoNode = record { kind = DocumentEnd; place = None; inside = NoNode }
first_item (Node kind place inside more) = record { kind = kind; place = place; inside = inside }
