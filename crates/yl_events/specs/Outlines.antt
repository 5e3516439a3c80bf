-- Meaning: the events of a derivation (YAML 1.2.2, 3.1.2), appended to those before. Their contents
-- and anchors are named by the indices of lexemes.
use Rattle.std.specs.Prelude.{ℕ, true, false, List, [], ◌∷◌, ◌++◌, Option, Some, None}
use Rattle.yl_events.specs.declared.symbol.Properties.{Properties}
use Rattle.yl_events.specs.declared.symbol.Properties.TheVariants.{Anchored, Tagged, AnchoredTagged, TaggedAnchored}
use Rattle.yl_events.specs.declared.symbol.BracketKind.{BracketKind}
use Rattle.yl_events.specs.declared.symbol.BracketKind.TheVariants.{Square, Curly}
use Rattle.yl_events.specs.Grammar.{Inline, Items, Item, Node, Entries, Value, Pairs, Keyed, Document, AliasNode, PropertiesNode, ScalarNode, Flow, NoItem, LastItem, MoreItems, NodeItem, PairItem, KeyItem, KeyValueItem, ValueItem, Missing, InlineNode, BlockSequence, BlockMapping, NoEntry, MoreEntries, NodeValue, Indentless, ValueEntry, Others, NoPair, PairEntry, KeyEntry, KeyValueEntry}
use Rattle.yl_events.specs.declared.symbol.Outline.{Outline}
use Rattle.yl_events.specs.declared.symbol.Shape.{Shape}
use Rattle.yl_events.specs.declared.symbol.Shape.TheVariants.{DocumentStart, DocumentEnd, SequenceStart, SequenceEnd, MappingStart, MappingEnd, Alias, Scalar, Empty}

abbrev pub bare_event : Shape → Option ℕ → Outline
bare_event kind place = record { kind = kind; place = place; anchor = None; is_tagged = false }

abbrev pub node_event : Option Properties → Shape → Option ℕ → Outline
node_event None kind place = bare_event kind place
node_event (Some (Anchored a)) kind place = record { kind = kind; place = place; anchor = Some a; is_tagged = false }
node_event (Some (Tagged t)) kind place = record { kind = kind; place = place; anchor = None; is_tagged = true }
node_event (Some (AnchoredTagged a t)) kind place = record { kind = kind; place = place; anchor = Some a; is_tagged = true }
node_event (Some (TaggedAnchored t a)) kind place = record { kind = kind; place = place; anchor = Some a; is_tagged = true }

abbrev pub missing_node : Outline
missing_node = bare_event Empty None

abbrev pub end_event : Shape → Outline
end_event kind = bare_event kind None

-- the start and the end of a flow collection
abbrev pub flow_start : BracketKind → Shape
flow_start Square = SequenceStart
flow_start Curly = MappingStart

abbrev pub flow_end : BracketKind → Shape
flow_end Square = SequenceEnd
flow_end Curly = MappingEnd

-- an item of [ ] with a Key or a Value is a mapping of one pair; an item of { } is an entry of its
-- mapping
abbrev pub pair_start : BracketKind → ℕ → List Outline
pair_start Square at = bare_event MappingStart (Some at) ∷ []
pair_start Curly at = []

abbrev pub pair_end : BracketKind → List Outline
pair_end Square = end_event MappingEnd ∷ []
pair_end Curly = []

-- in { } a node alone is a key without a value
abbrev pub node_end : BracketKind → List Outline
node_end Square = []
node_end Curly = missing_node ∷ []

-- the events `out`, and after them these
infixl 65 ◌then◌
abbrev pub ◌then◌ : List Outline → List Outline → List Outline
out then [] = out
out then (e ∷ es) = (out ++ e ∷ []) then es

abbrev mutual
  pub inline_events : Inline → List Outline → List Outline
  inline_events (AliasNode s) out = out ++ bare_event Alias (Some s) ∷ []
  inline_events (PropertiesNode ps) out = out ++ node_event (Some ps) Empty None ∷ []
  inline_events (ScalarNode ps style s) out = out ++ node_event ps (Scalar style) (Some s) ∷ []
  inline_events (Flow ps b first its last) out = items_events b its (out ++ node_event ps (flow_start b) (Some first) ∷ []) ++ end_event (flow_end b) ∷ []

  pub items_events : BracketKind → Items → List Outline → List Outline
  items_events b NoItem out = out
  items_events b (LastItem i) out = item_events b i out
  items_events b (MoreItems i comma more) out = items_events b more (item_events b i out)

  pub item_events : BracketKind → Item → List Outline → List Outline
  item_events b (NodeItem n) out = inline_events n out then node_end b
  item_events b (PairItem at k colon v) out = node_events v (inline_events k (out then pair_start b at)) then pair_end b
  item_events b (KeyItem mark k) out = node_events k (out then pair_start b mark) ++ missing_node ∷ [] then pair_end b
  item_events b (KeyValueItem mark k colon v) out = node_events v (node_events k (out then pair_start b mark)) then pair_end b
  item_events b (ValueItem colon v) out = node_events v (out then pair_start b colon ++ missing_node ∷ []) then pair_end b

  pub node_events : Node → List Outline → List Outline
  node_events Missing out = out ++ missing_node ∷ []
  node_events (InlineNode n) out = inline_events n out
  node_events (BlockSequence ps at es) out = entries_events es (out ++ node_event ps SequenceStart (Some at) ∷ []) ++ end_event SequenceEnd ∷ []
  node_events (BlockMapping ps at more) out = pairs_events more (out ++ node_event ps MappingStart (Some at) ∷ []) ++ end_event MappingEnd ∷ []

  pub entries_events : Entries → List Outline → List Outline
  entries_events NoEntry out = out
  entries_events (MoreEntries dash n more) out = entries_events more (node_events n out)

  pub value_events : Value → List Outline → List Outline
  value_events (NodeValue n) out = node_events n out
  value_events (Indentless ps dash n more) out = entries_events more (node_events n (out ++ node_event ps SequenceStart (Some dash) ∷ [])) ++ end_event SequenceEnd ∷ []

  pub pairs_events : Pairs → List Outline → List Outline
  pairs_events (ValueEntry colon v more) out = pairs_events more (value_events v (out ++ missing_node ∷ []))
  pairs_events (Others more) out = keyed_events more out

  pub keyed_events : Keyed → List Outline → List Outline
  keyed_events NoPair out = out
  keyed_events (PairEntry at k colon v more) out = pairs_events more (value_events v (inline_events k out))
  keyed_events (KeyEntry mark k more) out = keyed_events more (value_events k out ++ missing_node ∷ [])
  keyed_events (KeyValueEntry mark k colon v more) out = pairs_events more (value_events v (value_events k out))

abbrev pub events : Document → List Outline
events d = node_events d.node (bare_event DocumentStart None ∷ []) ++ end_event DocumentEnd ∷ []
