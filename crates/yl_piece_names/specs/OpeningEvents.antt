-- Bridge: what a goal of a parser says of the collections that are open, and events that open them: they
-- have no names, no places and no anchors, so that no rule finds anything at them.
use Rattle.std.specs.Prelude.{◌≡◌, Bool, true, false, List, [], ◌∷◌, map, reverse, None}
use Rattle.std.specs.List.{flat_map}
use Rattle.yl_events.specs.declared.symbol.BracketKind.TheVariants.{Square, Curly}
use Rattle.yl_events.specs.declared.symbol.Goal.{Goal}
use Rattle.yl_events.specs.declared.symbol.Goal.TheVariants.{Formed, Entries, Indentless, Pairs, ValueOf, Items, ItemEnd, PairEnd, NodeEnd}
use Rattle.yl_events.specs.Event.{EventKindValue, EventValue, SequenceStart, MappingStart, Empty}
use Rattle.yl_tree.specs.OpenNodes.{OpenNodes, collections_behind, opened}
use Rattle.yl_open_collections.specs.OpenBy.{before_a_node, is_curly, open_by}
use Rattle.yl_piece_names.specs.declared.opening.Opening.{Opening}
use Rattle.yl_piece_names.specs.declared.opening.Opening.TheVariants.{Collection, Node, Nothing}

-- ---- what a goal says

abbrev pub opening_of : Goal → Opening
opening_of Entries = Collection false
opening_of Indentless = Collection false
opening_of Pairs = Collection true
opening_of (Items b) = Collection (is_curly b)
opening_of (ItemEnd b) = Collection (is_curly b)
opening_of (PairEnd Square) = Collection true
opening_of (Formed w ps) = Node
opening_of (ValueOf w) = Node
opening_of (NodeEnd Curly) = Node
opening_of _ = Nothing

abbrev pub with_opening : Opening → OpenNodes → OpenNodes
with_opening (Collection is_mapping) s = opened is_mapping s
with_opening Node s = before_a_node s
with_opening Nothing s = s

-- where these collections are open, and goals say this of more of them, one after another
abbrev pub opened_from : OpenNodes → List Opening → OpenNodes
opened_from s [] = s
opened_from s (o ∷ os) = opened_from (with_opening o s) os

-- the collections that are open where goals are left that say this, the goal that is read first last
abbrev pub opened_by : List Opening → OpenNodes
opened_by os = opened_from (collections_behind []) os

-- ---- events that open the collections

abbrev pub bare : EventKindValue → EventValue
bare kind = record { kind = kind; place = None; anchor = None; is_tagged = false }

abbrev pub start_kind : Bool → EventKindValue
start_kind true = MappingStart
start_kind false = SequenceStart

-- the collection is a node of the one around it, in which the same comes next as before: so it stands
-- behind another node
abbrev pub events_of : Opening → List EventValue
events_of (Collection is_mapping) = bare Empty ∷ bare (start_kind is_mapping) ∷ []
events_of Node = bare Empty ∷ []
events_of Nothing = []

abbrev pub opening_events : List Opening → List EventValue
opening_events os = flat_map events_of os

-- ---- the law

-- goals open the collections that the parser's goals say
abbrev pub GoalsOpen : Type 0
GoalsOpen = (goals : List Goal) → opened_by (reverse (map opening_of goals)) ≡ open_by goals
