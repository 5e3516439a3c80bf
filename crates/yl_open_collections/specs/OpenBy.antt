-- Bridge: which collections are open in a document, by what its parser has still to read, without
-- the events that were told.
use Rattle.std.specs.Prelude.{◌≡◌, Bool, true, false, not, if◌then◌else◌, List, [], ◌∷◌, ◌++◌, map, reverse, Some, None}
use Rattle.yl_lexeme.specs.Lexeme.{LexemeValue}
use Rattle.yl_marks.specs.declared.symbol.Symbol.{Symbol}
use Rattle.yl_events.specs.declared.symbol.BracketKind.{BracketKind}
use Rattle.yl_events.specs.declared.symbol.BracketKind.TheVariants.{Square, Curly}
use Rattle.yl_events.specs.declared.symbol.Goal.{Goal}
use Rattle.yl_events.specs.declared.symbol.Goal.TheVariants.{Formed, Entries, Indentless, Pairs, ValueOf, Items, ItemEnd, PairEnd, NodeEnd}
use Rattle.yl_events.specs.declared.symbol.Outline.{Outline}
use Rattle.yl_events.specs.declared.symbol.Shape.{Shape}
use Rattle.yl_events.specs.declared.symbol.Shape.TheVariants as shape
use Rattle.yl_events.specs.Outlines.{bare_event}
use Rattle.yl_events.specs.Machine.{ParserState, goals_of_document}
use Rattle.yl_events.specs.DocumentOutcome.{steps}
use Rattle.yl_events.specs.State.{goal_state}
use Rattle.yl_events.specs.Event.{EventValue, EventKindValue, DocumentStart, DocumentEnd, SequenceStart, SequenceEnd, MappingStart, MappingEnd, AliasOf, ScalarOf, Empty, event_of_outline}
use Rattle.yl_events.specs.Seen.{LineValue, event_seen}
use Rattle.yl_tree.specs.OpenNodes.{OpenCollection, OpenNodes, opened, collections_behind}
use Rattle.yl_open_collections.specs.Counted.{after_events, what_counts}

-- ---- open collections without keys

-- the same collection without keys
abbrev pub keyless : OpenCollection → OpenCollection
keyless o = record { is_mapping = o.is_mapping; is_key_next = o.is_key_next; keys = [] }

-- the same open collections without keys
abbrev pub without_keys : OpenNodes → OpenNodes
without_keys s = record { innermost = keyless s.innermost; outer = map keyless s.outer }

-- what counts but keys: of each open collection whether it is a mapping, and of a mapping whether a
-- key comes next in it
abbrev pub kinds_and_turns : OpenNodes → OpenNodes
kinds_and_turns s = without_keys (what_counts s)

-- ---- by goals

-- the collection before its latest node: in a mapping keys and values take turns
abbrev pub one_node_earlier : OpenCollection → OpenCollection
one_node_earlier o = if o.is_mapping then record o { is_key_next = not o.is_key_next } else o

-- the innermost collection has still to get a node
abbrev pub before_a_node : OpenNodes → OpenNodes
before_a_node s = record s { innermost = one_node_earlier s.innermost }

-- the items of { } are the pairs of a mapping
abbrev pub is_curly : BracketKind → Bool
is_curly Square = false
is_curly Curly = true

-- one goal more, which is read first. It is the rest of an open collection, or a node of the one
-- around it, or neither
abbrev pub with_goal : Goal → OpenNodes → OpenNodes
with_goal Entries s = opened false s
with_goal Indentless s = opened false s
with_goal Pairs s = opened true s
with_goal (Items b) s = opened (is_curly b) s
with_goal (ItemEnd b) s = opened (is_curly b) s
with_goal (PairEnd Square) s = opened true s
with_goal (Formed w ps) s = before_a_node s
with_goal (ValueOf w) s = before_a_node s
with_goal (NodeEnd Curly) s = before_a_node s
with_goal _ s = s

-- the collections that are open where these goals are left, the innermost first, without keys
abbrev pub open_by : List Goal → OpenNodes
open_by [] = collections_behind []
open_by (g ∷ goals) = with_goal g (open_by goals)

-- ---- events and outlines, whatever their names

-- what an event is, without its name or value
abbrev pub kind_shape : EventKindValue → Shape
kind_shape DocumentStart = shape.DocumentStart
kind_shape DocumentEnd = shape.DocumentEnd
kind_shape SequenceStart = shape.SequenceStart
kind_shape SequenceEnd = shape.SequenceEnd
kind_shape MappingStart = shape.MappingStart
kind_shape MappingEnd = shape.MappingEnd
kind_shape (AliasOf name) = shape.Alias
kind_shape (ScalarOf style value) = shape.Scalar style
kind_shape Empty = shape.Empty

abbrev pub event_shapes : List EventValue → List Shape
event_shapes es = map (λ e. kind_shape e.kind) es

abbrev pub shapes : List Outline → List Shape
shapes os = map (λ o. o.kind) os

-- ---- the law

-- a parser with these goals, which had told `out`, is now in the state t. Where the collections
-- before were those that its goals say, they are so after what it told since
pub record StaysOpenBy (goals : List Goal) (out : List Outline) (t : ParserState) : Type 0 where
  pub told : List Outline
  pub appended : t.events ≡ out ++ told
  pub follows : (s : OpenNodes) (es : List EventValue) → event_shapes es ≡ shapes told → kinds_and_turns s ≡ open_by goals
      → kinds_and_turns (after_events s es) ≡ open_by t.goals

pub record GoalsOpenCollections : Type 0 where
  -- goals say all that counts but keys, and no more
  pub whole : (goals : List Goal) → kinds_and_turns (open_by goals) ≡ open_by goals
  -- kinds and turns after events are determined by those before them and by the shapes of the events
  pub alike : (s t : OpenNodes) (es fs : List EventValue) → event_shapes es ≡ event_shapes fs → kinds_and_turns s ≡ kinds_and_turns t
      → kinds_and_turns (after_events s es) ≡ kinds_and_turns (after_events t fs)
  -- the events of outlines have their shapes, whatever lexemes the outlines name
  pub named : (xs : List LexemeValue) (os : List Outline) → event_shapes (map (event_of_outline xs) os) ≡ shapes os
  pub seen : (l : LineValue) (os : List Outline) → event_shapes (map (event_seen l) os) ≡ shapes os
  -- symbols that are taken
  pub symbols : (ws : List Symbol) (goals : List Goal) (out : List Outline) (t : ParserState) → steps ws goals out ≡ Some t → StaysOpenBy goals out t
  -- the same, from what the goals say on
  pub events : (xs : List LexemeValue) (ws : List Symbol) (goals : List Goal) (t : ParserState) → steps ws goals [] ≡ Some t
      → kinds_and_turns (after_events (open_by goals) (map (event_of_outline xs) t.events)) ≡ open_by t.goals
  -- the first symbols of a document
  pub document : (xs : List LexemeValue) (ws : List Symbol) (t : ParserState) → steps ws goals_of_document (bare_event shape.DocumentStart None ∷ []) ≡ Some t
      → kinds_and_turns (collections_behind (reverse (map (event_of_outline xs) t.events))) ≡ open_by t.goals
  -- indices of lexemes do not matter
  pub states : (goals : List Goal) → open_by (map goal_state goals) ≡ open_by goals
