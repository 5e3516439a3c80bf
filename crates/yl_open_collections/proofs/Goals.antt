-- What a goal takes and tells leads from the collections that it says are open to those of the
-- goals that take its place.
use Rattle.std.specs.Prelude.{ℕ, IfSome}
use Rattle.std.proofs.Common.{◌≡◌, List, [], ◌∷◌, ◌++◌, map, Bool, true, false, refl, sym, ◌∙◌, ap, Option, Some, None}
use Rattle.yl_lexeme.specs.declared.lexeme.Kind.{Kind}
use Rattle.yl_marks.specs.declared.symbol.Symbol.{Symbol}
use Rattle.yl_marks.specs.declared.symbol.Symbol.TheVariants.{OpenSequence, OpenMapping, BeginKey, Close, One}
use Rattle.yl_events.specs.declared.symbol.BracketKind.{BracketKind}
use Rattle.yl_events.specs.declared.symbol.BracketKind.TheVariants.{Square, Curly}
use Rattle.yl_events.specs.declared.symbol.Properties.{Properties}
use Rattle.yl_events.specs.declared.symbol.Properties.TheVariants.{Anchored, Tagged, AnchoredTagged, TaggedAnchored}
use Rattle.yl_events.specs.declared.symbol.Outline.{Outline}
use Rattle.yl_events.specs.declared.symbol.Shape.{Shape}
use Rattle.yl_events.specs.declared.symbol.Shape.TheVariants as shape
use Rattle.yl_events.specs.declared.symbol.Where.{Where}
use Rattle.yl_events.specs.declared.symbol.Where.TheVariants.{InInline, InBlock}
use Rattle.yl_events.specs.declared.symbol.Goal.{Goal}
use Rattle.yl_events.specs.declared.symbol.Goal.TheVariants as g
use Rattle.yl_events.specs.declared.symbol.Goal.TheVariants.{Prefix, Directives, Ending, Formed, ValueOf, Colon, ItemEnd, PairEnd, NodeEnd}
use Rattle.yl_events.specs.Outlines.{node_event}
use Rattle.yl_events.specs.Machine as m
use Rattle.yl_events.specs.Machine.{Turn, takes, leaves, node_turn}
use Rattle.yl_events.specs.State.{goal_state}
use Rattle.yl_tree.specs.OpenNodes.{OpenNodes, opened}
use Rattle.yl_open_collections.specs.OpenBy.{one_node_earlier, before_a_node, is_curly, with_goal, open_by, kinds_and_turns, shapes}
use Rattle.yl_open_collections.proofs.Counted.{collection}
use Rattle.yl_open_collections.proofs.Turns.{with_shape, after_shapes, turn_of}

-- ---- goals over open collections

abbrev pub with_goals : List Goal → OpenNodes → OpenNodes
with_goals [] s = s
with_goals (g ∷ goals) s = with_goal g (with_goals goals s)

pub goals_over : (gs hs : List Goal) (s : OpenNodes) → with_goals (gs ++ hs) s ≡ with_goals gs (with_goals hs s)
goals_over [] hs s = refl
goals_over (g ∷ gs) hs s = ap (with_goal g) (goals_over gs hs s)

pub open_over : (gs goals : List Goal) → open_by (gs ++ goals) ≡ with_goals gs (open_by goals)
open_over [] goals = refl
open_over (g ∷ gs) goals = ap (with_goal g) (open_over gs goals)

-- ---- a node given and taken

twice_of : (m n : Bool) (ks : List (List ℕ)) → one_node_earlier (one_node_earlier (collection m n ks)) ≡ collection m n ks
twice_of true true ks = refl
twice_of true false ks = refl
twice_of false n ks = refl

twice : (s : OpenNodes) → before_a_node (before_a_node s) ≡ s
twice s = λ i. record { innermost = twice_of s.innermost.is_mapping s.innermost.is_key_next s.innermost.keys i; outer = s.outer }

kind_of_node : (ps : Option Properties) (k : Shape) (place : Option ℕ) → (node_event ps k place).kind ≡ k
kind_of_node None k place = refl
kind_of_node (Some (Anchored a)) k place = refl
kind_of_node (Some (Tagged t)) k place = refl
kind_of_node (Some (AnchoredTagged a t)) k place = refl
kind_of_node (Some (TaggedAnchored t a)) k place = refl

-- ---- a symbol that a goal takes

-- from the one open collections a turn over the others leads to those of its goals
abbrev pub Leads : OpenNodes → OpenNodes → Option Turn → Type 0
Leads from under r = IfSome r (λ t. after_shapes from (shapes t.events) ≡ with_goals t.goals under)

module _ (s : OpenNodes) where
  node_told : (ps : Option Properties) (k : Shape) (place : Option ℕ) (t : OpenNodes) → with_shape k (before_a_node s) ≡ t
      → after_shapes (before_a_node s) (shapes (node_event ps k place ∷ [])) ≡ t
  node_told ps k place t is = ap (λ l. with_shape l (before_a_node s)) (kind_of_node ps k place) ∙ is

  property_leads : (w : Where) (more : Option Properties) → Leads (before_a_node s) s (m.property_turn w more)
  property_leads w None = tt
  property_leads w (Some ps) = refl

  alias_leads : (ps : Option Properties) (i : ℕ) → Leads (before_a_node s) s (m.alias_at ps i)
  alias_leads None i = twice s
  alias_leads (Some ps) i = tt

  indentless : opened false s ≡ before_a_node (opened false s)
  indentless = refl

  node_leads : (w : Where) (ps : Option Properties) (x : Symbol) → Leads (before_a_node s) s (node_turn w ps x)
  node_leads w ps (One Kind.Alias i) = alias_leads ps i
  node_leads w ps (One Kind.Anchor i) = property_leads w (m.with_anchor ps i)
  node_leads w ps (One Kind.Tag i) = property_leads w (m.with_tag ps i)
  node_leads w ps (One (Kind.Scalar style) i) = node_told ps (shape.Scalar style) (Some i) s (twice s)
  node_leads w ps (One Kind.SeqOpen i) = node_told ps shape.SequenceStart (Some i) (opened false s) (ap (opened false) (twice s))
  node_leads w ps (One Kind.MapOpen i) = node_told ps shape.MappingStart (Some i) (opened true s) (ap (opened true) (twice s))
  node_leads InInline ps (OpenSequence at) = tt
  node_leads (InBlock v) ps (OpenSequence at) = node_told ps shape.SequenceStart (Some at) (opened false s) (ap (opened false) (twice s))
  node_leads InInline ps (OpenMapping at) = tt
  node_leads (InBlock v) ps (OpenMapping at) = node_told ps shape.MappingStart (Some at) (opened true s) (ap (opened true) (twice s))
  node_leads InInline ps (One Kind.Entry i) = tt
  node_leads (InBlock false) ps (One Kind.Entry i) = tt
  node_leads (InBlock true) ps (One Kind.Entry i) = node_told ps shape.SequenceStart (Some i) (opened false s) (ap (opened false) (twice s)) ∙ indentless
  node_leads w ps x = tt

before_leads : (gs : List Goal) (from s : OpenNodes) (r : Option Turn) → Leads from (with_goals gs s) r → Leads from s (m.turn_before gs r)
before_leads gs from s None h = tt
before_leads gs from s (Some t) h = h ∙ sym (goals_over t.goals gs s)

module _ (s : OpenNodes) where
  closing_leads : (b : BracketKind) (kind : Kind) → Leads (opened (is_curly b) s) s (m.closing_turn b kind)
  closing_leads Square Kind.SeqClose = refl
  closing_leads Curly Kind.MapClose = refl
  closing_leads _ _ = tt

  key_leads : (b : BracketKind) (at : ℕ) → Leads (opened (is_curly b) s) s (m.items_take b (BeginKey at))
  key_leads Square at = refl
  key_leads Curly at = refl

  marked_key_leads : (b : BracketKind) (i : ℕ) → Leads (opened (is_curly b) s) s (m.items_take b (One Kind.Key i))
  marked_key_leads Square i = refl
  marked_key_leads Curly i = refl

  value_leads : (b : BracketKind) (i : ℕ) → Leads (opened (is_curly b) s) s (m.items_take b (One Kind.Value i))
  value_leads Square i = refl
  value_leads Curly i = refl

  item_leads : (b : BracketKind) (x : Symbol) → Leads (opened (is_curly b) s) s (m.turn_before (NodeEnd b ∷ ItemEnd b ∷ []) (node_turn InInline None x))
  item_leads Square x = before_leads (NodeEnd Square ∷ ItemEnd Square ∷ []) (opened false s) s (node_turn InInline None x) (node_leads (opened false s) InInline None x)
  item_leads Curly x = before_leads (NodeEnd Curly ∷ ItemEnd Curly ∷ []) (opened true s) s (node_turn InInline None x) (node_leads (before_a_node (opened true s)) InInline None x)

  items_leads : (b : BracketKind) (x : Symbol) → Leads (opened (is_curly b) s) s (m.items_take b x)
  items_leads b (BeginKey at) = key_leads b at
  items_leads b (One Kind.Key i) = marked_key_leads b i
  items_leads b (One Kind.Value i) = value_leads b i
  items_leads b (One Kind.SeqClose i) = closing_leads b Kind.SeqClose
  items_leads b (One Kind.MapClose i) = closing_leads b Kind.MapClose
  items_leads b x = item_leads b x

  pub goal_leads : (g : Goal) (x : Symbol) → Leads (with_goal g s) s (takes g x)
  goal_leads Prefix (One Kind.Directive i) = refl
  goal_leads Prefix (One Kind.DocStart i) = refl
  goal_leads Directives (One Kind.Directive i) = refl
  goal_leads Directives (One Kind.DocStart i) = refl
  goal_leads Ending (One Kind.DocEnd i) = refl
  goal_leads (Formed w ps) x = node_leads s w ps x
  goal_leads g.Entries (One Kind.Entry i) = refl
  goal_leads g.Entries Close = refl
  goal_leads g.Indentless (One Kind.Entry i) = refl
  goal_leads g.Pairs (BeginKey at) = refl
  goal_leads g.Pairs (One Kind.Key i) = refl
  goal_leads g.Pairs (One Kind.Value i) = refl
  goal_leads g.Pairs Close = refl
  goal_leads (ValueOf w) (One Kind.Value i) = refl
  goal_leads Colon (One Kind.Value i) = refl
  goal_leads (g.Items b) x = items_leads b x
  goal_leads (ItemEnd b) (One Kind.Comma i) = refl
  goal_leads (ItemEnd b) (One kind i) = closing_leads b kind
  goal_leads _ _ = tt

  -- ---- a goal that is left

  abbrev pub LeadsOut : Goal → Option (List Outline) → Type 0
  LeadsOut g r = IfSome r (λ es. after_shapes (with_goal g s) (shapes es) ≡ s)

  pub goal_left : (g : Goal) → LeadsOut g (leaves g)
  goal_left Prefix = refl
  goal_left Ending = refl
  goal_left (Formed InInline None) = tt
  goal_left (Formed InInline (Some ps)) = node_told s (Some ps) shape.Empty None s (twice s)
  goal_left (Formed (InBlock v) ps) = node_told s ps shape.Empty None s (twice s)
  goal_left g.Indentless = refl
  goal_left (ValueOf w) = twice s
  goal_left (PairEnd Square) = refl
  goal_left (PairEnd Curly) = refl
  goal_left (NodeEnd Square) = refl
  goal_left (NodeEnd Curly) = twice s
  goal_left _ = tt

-- ---- the form of what goals say

earlier_of : (m n : Bool) (ks : List (List ℕ)) → turn_of (one_node_earlier (collection m n ks)) ≡ one_node_earlier (turn_of (collection m n ks))
earlier_of true n ks = refl
earlier_of false n ks = refl

earlier : (s : OpenNodes) → kinds_and_turns (before_a_node s) ≡ before_a_node (kinds_and_turns s)
earlier s = λ i. record { innermost = earlier_of s.innermost.is_mapping s.innermost.is_key_next s.innermost.keys i; outer = (kinds_and_turns s).outer }

opened_again : (b : BracketKind) (s : OpenNodes) → kinds_and_turns (opened (is_curly b) s) ≡ opened (is_curly b) (kinds_and_turns s)
opened_again Square s = refl
opened_again Curly s = refl

goal_again : (g : Goal) (s : OpenNodes) → kinds_and_turns (with_goal g s) ≡ with_goal g (kinds_and_turns s)
goal_again Prefix s = refl
goal_again Directives s = refl
goal_again Ending s = refl
goal_again (Formed w ps) s = earlier s
goal_again g.Entries s = refl
goal_again g.Indentless s = refl
goal_again g.Pairs s = refl
goal_again (ValueOf w) s = earlier s
goal_again Colon s = refl
goal_again (g.Items b) s = opened_again b s
goal_again (ItemEnd b) s = opened_again b s
goal_again (PairEnd Square) s = refl
goal_again (PairEnd Curly) s = refl
goal_again (NodeEnd Square) s = refl
goal_again (NodeEnd Curly) s = earlier s

pub open_again : (goals : List Goal) → kinds_and_turns (open_by goals) ≡ open_by goals
open_again [] = refl
open_again (g ∷ goals) = goal_again g (open_by goals) ∙ ap (with_goal g) (open_again goals)

-- ---- indices

state_of : (g : Goal) (s : OpenNodes) → with_goal (goal_state g) s ≡ with_goal g s
state_of (Formed w ps) s = refl
state_of g s = refl

pub same_state : (goals : List Goal) → open_by (map goal_state goals) ≡ open_by goals
same_state [] = refl
same_state (g ∷ goals) = ap (with_goal (goal_state g)) (same_state goals) ∙ state_of g (open_by goals)
