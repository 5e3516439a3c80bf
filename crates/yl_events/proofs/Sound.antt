-- What is parsed is a derivation's spelling, and each front that is taken begins one.
use Rattle.std.specs.Prelude.{ℕ, ◌≡◌, refl, true, false, List, [], ◌∷◌, ◌++◌, Option, Some, None}
use Rattle.std.proofs.Common.{sym, ◌∙◌, ap, subst, append_assoc}
use Rattle.yl_lexeme.specs.declared.lexeme.Kind.{Kind}
use Rattle.yl_marks.specs.declared.symbol.Symbol.{Symbol}
use Rattle.yl_marks.specs.declared.symbol.Symbol.TheVariants.{OpenSequence, OpenMapping, BeginKey, Close, One}
use Rattle.yl_events.specs.declared.symbol.BracketKind.{BracketKind}
use Rattle.yl_events.specs.declared.symbol.BracketKind.TheVariants.{Square, Curly}
use Rattle.yl_events.specs.declared.symbol.Properties.{Properties}
use Rattle.yl_events.specs.declared.symbol.Properties.TheVariants.{Anchored, Tagged, AnchoredTagged, TaggedAnchored}
use Rattle.yl_events.specs.Grammar.{Inline, Items, Item, Node, Entries, Value, Pairs, Document, AliasNode, PropertiesNode, ScalarNode, Flow, NoItem, LastItem, MoreItems, NodeItem, PairItem, KeyItem, KeyValueItem, ValueItem, Missing, InlineNode, BlockSequence, BlockMapping, NoEntry, MoreEntries, NodeValue, Indentless, ValueEntry, Others, NoPair, PairEntry, KeyEntry, KeyValueEntry, Start, Bare, Marked, optional, inline, items, item, node, entries, value, pairs, directives, start, ending, spelling, closing}
use Rattle.yl_events.specs.declared.symbol.Outline.{Outline}
use Rattle.yl_events.specs.Outlines.{◌then◌}
use Rattle.yl_events.specs.declared.symbol.Goal.TheVariants as g
use Rattle.yl_events.specs.Machine as m
use Rattle.yl_events.specs.declared.symbol.Where.{Where}
use Rattle.yl_events.specs.declared.symbol.Where.TheVariants.{InInline, InBlock}
use Rattle.yl_events.specs.declared.symbol.Goal.{Goal}
use Rattle.yl_events.specs.declared.symbol.Goal.TheVariants.{Formed, Ending, Prefix, Colon, ItemEnd, PairEnd, NodeEnd, Directives, ValueOf}
use Rattle.yl_events.specs.Machine.{Turn, ParserState, node_turn, takes, leaves, step, finish, run, parse}

-- ---- what fills a goal

abbrev pub Of : Where → Type 0
Of InInline = Inline
Of (InBlock false) = Node
Of (InBlock true) = Value

abbrev pub of : (w : Where) → Of w → List Symbol → List Symbol
of InInline t rest = inline t rest
of (InBlock false) t rest = node t rest
of (InBlock true) t rest = value t rest

-- a node of which these properties are read
pub record Formation (w : Where) (ps : Option Properties) : Type 0 where
  pub whole : Of w
  pub tail : List Symbol → List Symbol
  pub spelled : (rest : List Symbol) → of w whole rest ≡ optional ps (tail rest)

pub data ItemsLeft : Type 0 where
  no_more : (last : ℕ) → ItemsLeft
  comma : (s : ℕ) (its : Items) (last : ℕ) → ItemsLeft

pub data ValueLeft (w : Where) : Type 0 where
  no_value : ValueLeft w
  valued : (colon : ℕ) (v : Of w) → ValueLeft w

abbrev pub Tree : Goal → Type 0
Tree Prefix = Start
Tree Directives = List ℕ × ℕ
Tree Ending = Option ℕ
Tree (Formed w ps) = Formation w ps
Tree g.Entries = Entries
Tree g.Indentless = Entries
Tree g.Pairs = Pairs
Tree (ValueOf w) = ValueLeft w
Tree Colon = ℕ
Tree (g.Items b) = Items × ℕ
Tree (ItemEnd b) = ItemsLeft
Tree (PairEnd b) = Unit {0}
Tree (NodeEnd b) = Unit {0}

abbrev pub items_left : BracketKind → ItemsLeft → List Symbol → List Symbol
items_left b (no_more last) rest = One (closing b) last ∷ rest
items_left b (comma s its last) rest = One Kind.Comma s ∷ items its (One (closing b) last ∷ rest)

abbrev pub value_left : (w : Where) → ValueLeft w → List Symbol → List Symbol
value_left w no_value rest = rest
value_left w (valued colon v) rest = One Kind.Value colon ∷ of w v rest

abbrev pub end_then : Option ℕ → List Symbol → List Symbol
end_then None rest = rest
end_then (Some s) rest = One Kind.DocEnd s ∷ rest

abbrev pub spelled_by : (g : Goal) → Tree g → List Symbol → List Symbol
spelled_by Prefix t rest = start t rest
spelled_by Directives t rest = directives t.0 (One Kind.DocStart t.1 ∷ rest)
spelled_by Ending t rest = end_then t rest
spelled_by (Formed w ps) t rest = t.tail rest
spelled_by g.Entries t rest = entries t (Close ∷ rest)
spelled_by g.Indentless t rest = entries t rest
spelled_by g.Pairs t rest = pairs t (Close ∷ rest)
spelled_by (ValueOf w) t rest = value_left w t rest
spelled_by Colon t rest = One Kind.Value t ∷ rest
spelled_by (g.Items b) t rest = items t.0 (One (closing b) t.1 ∷ rest)
spelled_by (ItemEnd b) t rest = items_left b t rest
spelled_by (PairEnd b) t rest = rest
spelled_by (NodeEnd b) t rest = rest

abbrev pub Forest : List Goal → Type 0
Forest [] = Unit {0}
Forest (g ∷ goals) = Tree g × Forest goals

abbrev pub forest : (goals : List Goal) → Forest goals → List Symbol
forest [] f = []
forest (g ∷ goals) f = spelled_by g f.0 (forest goals f.1)

-- ---- a symbol that a goal takes

record Grown (g : Goal) (x : Symbol) (goals : List Goal) (ws : List Symbol) : Type 0 where
  tree : Tree g
  others : Forest goals
  spelled : spelled_by g tree (forest goals others) ≡ x ∷ ws

abbrev Back : Goal → Symbol → Option Turn → Type 0
Back g x None = Unit {0}
Back g x (Some t) = (goals : List Goal) (f : Forest (t.goals ++ goals)) → Grown g x goals (forest (t.goals ++ goals) f)

-- a node of the scalar or collection with these properties
abbrev made : (w : Where) (ps : Option Properties) (n : Inline) → Of w
made InInline ps n = n
made (InBlock false) ps n = InlineNode n
made (InBlock true) ps n = NodeValue (InlineNode n)

made_spelled : (w : Where) (ps : Option Properties) (n : Inline) (rest : List Symbol) → of w (made w ps n) rest ≡ inline n rest
made_spelled InInline ps n rest = refl
made_spelled (InBlock false) ps n rest = refl
made_spelled (InBlock true) ps n rest = refl

forms_back : (w : Where) (ps : Option Properties) (x : Symbol) → Back (Formed w ps) x (node_turn w ps x)
forms_back w None (One Kind.Alias s) = λ goals f. record { tree = record { whole = made w None (AliasNode s); tail = λ rest. One Kind.Alias s ∷ rest; spelled = made_spelled w None (AliasNode s) }; others = f; spelled = refl }
forms_back w (Some ps) (One Kind.Alias s) = tt
forms_back w None (One Kind.Anchor s) = λ goals f. record { tree = record { whole = f.0.whole; tail = λ rest. One Kind.Anchor s ∷ f.0.tail rest; spelled = f.0.spelled }; others = f.1; spelled = refl }
forms_back w (Some (Tagged t)) (One Kind.Anchor s) = λ goals f. record { tree = record { whole = f.0.whole; tail = λ rest. One Kind.Anchor s ∷ f.0.tail rest; spelled = f.0.spelled }; others = f.1; spelled = refl }
forms_back w (Some (Anchored a)) (One Kind.Anchor s) = tt
forms_back w (Some (AnchoredTagged a t)) (One Kind.Anchor s) = tt
forms_back w (Some (TaggedAnchored t a)) (One Kind.Anchor s) = tt
forms_back w None (One Kind.Tag s) = λ goals f. record { tree = record { whole = f.0.whole; tail = λ rest. One Kind.Tag s ∷ f.0.tail rest; spelled = f.0.spelled }; others = f.1; spelled = refl }
forms_back w (Some (Anchored a)) (One Kind.Tag s) = λ goals f. record { tree = record { whole = f.0.whole; tail = λ rest. One Kind.Tag s ∷ f.0.tail rest; spelled = f.0.spelled }; others = f.1; spelled = refl }
forms_back w (Some (Tagged t)) (One Kind.Tag s) = tt
forms_back w (Some (AnchoredTagged a t)) (One Kind.Tag s) = tt
forms_back w (Some (TaggedAnchored t a)) (One Kind.Tag s) = tt
forms_back w ps (One (Kind.Scalar style) s) = λ goals f. record { tree = record { whole = made w ps (ScalarNode ps style s); tail = λ rest. One (Kind.Scalar style) s ∷ rest; spelled = made_spelled w ps (ScalarNode ps style s) }; others = f; spelled = refl }
forms_back w ps (One Kind.SeqOpen s) = λ goals f. record { tree = record { whole = made w ps (Flow ps Square s f.0.0 f.0.1); tail = λ rest. One Kind.SeqOpen s ∷ items f.0.0 (One Kind.SeqClose f.0.1 ∷ rest); spelled = made_spelled w ps (Flow ps Square s f.0.0 f.0.1) }; others = f.1; spelled = refl }
forms_back w ps (One Kind.MapOpen s) = λ goals f. record { tree = record { whole = made w ps (Flow ps Curly s f.0.0 f.0.1); tail = λ rest. One Kind.MapOpen s ∷ items f.0.0 (One Kind.MapClose f.0.1 ∷ rest); spelled = made_spelled w ps (Flow ps Curly s f.0.0 f.0.1) }; others = f.1; spelled = refl }
forms_back InInline ps (OpenSequence at) = tt
forms_back (InBlock false) ps (OpenSequence at) = λ goals f. record { tree = record { whole = BlockSequence ps at f.0; tail = λ rest. OpenSequence at ∷ entries f.0 (Close ∷ rest); spelled = λ rest. refl }; others = f.1; spelled = refl }
forms_back (InBlock true) ps (OpenSequence at) = λ goals f. record { tree = record { whole = NodeValue (BlockSequence ps at f.0); tail = λ rest. OpenSequence at ∷ entries f.0 (Close ∷ rest); spelled = λ rest. refl }; others = f.1; spelled = refl }
forms_back InInline ps (OpenMapping at) = tt
forms_back (InBlock false) ps (OpenMapping at) = λ goals f. record { tree = record { whole = BlockMapping ps at f.0; tail = λ rest. OpenMapping at ∷ pairs f.0 (Close ∷ rest); spelled = λ rest. refl }; others = f.1; spelled = refl }
forms_back (InBlock true) ps (OpenMapping at) = λ goals f. record { tree = record { whole = NodeValue (BlockMapping ps at f.0); tail = λ rest. OpenMapping at ∷ pairs f.0 (Close ∷ rest); spelled = λ rest. refl }; others = f.1; spelled = refl }
forms_back InInline ps (One Kind.Entry s) = tt
forms_back (InBlock false) ps (One Kind.Entry s) = tt
forms_back (InBlock true) ps (One Kind.Entry s) = λ goals f. record { tree = record { whole = Indentless ps s f.0.whole f.1.0; tail = λ rest. One Kind.Entry s ∷ node f.0.whole (entries f.1.0 rest); spelled = λ rest. refl }; others = f.1.1; spelled = ap (λ l. One Kind.Entry s ∷ l) (f.0.spelled _) }
forms_back w ps x = tt

-- an item and what follows it
with_item : Item → ItemsLeft → Items × ℕ
with_item i (no_more last) = (LastItem i, last)
with_item i (comma s its last) = (MoreItems i s its, last)

with_item_spelled : (b : BracketKind) (i : Item) (l : ItemsLeft) (rest : List Symbol) →
    items (with_item i l).0 (One (closing b) (with_item i l).1 ∷ rest) ≡ item i (items_left b l rest)
unfolding with_item
with_item_spelled b i (no_more last) rest = refl
with_item_spelled b i (comma s its last) rest = refl

key_item : ℕ → Node → ValueLeft (InBlock false) → Item
key_item mark k no_value = KeyItem mark k
key_item mark k (valued colon v) = KeyValueItem mark k colon v

key_item_spelled : (mark : ℕ) (k : Node) (v : ValueLeft (InBlock false)) (rest : List Symbol) →
    item (key_item mark k v) rest ≡ One Kind.Key mark ∷ node k (value_left (InBlock false) v rest)
unfolding key_item
key_item_spelled mark k no_value rest = refl
key_item_spelled mark k (valued colon v) rest = refl

-- an item stands first
as_items : (b : BracketKind) (x : Symbol) (goals : List Goal) (ws : List Symbol) (i : Item) (l : ItemsLeft) (others : Forest goals) →
    item i (items_left b l (forest goals others)) ≡ x ∷ ws → Grown (g.Items b) x goals ws
as_items b x goals ws i l others e = record { tree = with_item i l; others = others; spelled = with_item_spelled b i l (forest goals others) ∙ e }

along : (gs hs : List Goal) → gs ≡ hs → (f : Forest gs) → (f' : Forest hs) × (forest hs f' ≡ forest gs f)
along gs hs e f = subst (λ ks. (f' : Forest ks) × (forest ks f' ≡ forest gs f)) e (f, refl)

followed_back : (b : BracketKind) (x : Symbol) (r : Option Turn) → Back (Formed InInline None) x r → Back (g.Items b) x (m.turn_before (NodeEnd b ∷ ItemEnd b ∷ []) r)
followed_back b x None back = tt
followed_back b x (Some t) back = λ goals f.
    let moved = along _ (t.goals ++ (NodeEnd b ∷ ItemEnd b ∷ goals)) (append_assoc t.goals (NodeEnd b ∷ ItemEnd b ∷ []) goals) f in
    let g = back (NodeEnd b ∷ ItemEnd b ∷ goals) moved.0 in
    as_items b x goals _ (NodeItem g.tree.whole) g.others.1.0 g.others.1.1
    (g.tree.spelled _ ∙ g.spelled ∙ ap (λ l. x ∷ l) moved.1)

items_back : (b : BracketKind) (x : Symbol) → Back (g.Items b) x (m.items_take b x)
items_back b (BeginKey at) = λ goals f.
    as_items b (BeginKey at) goals _ (PairItem at f.0.whole f.1.0 f.1.1.0.whole) f.1.1.1.1.0 f.1.1.1.1.1
    (ap (λ l. BeginKey at ∷ l) (f.0.spelled _ ∙ ap (λ l. f.0.tail (One Kind.Value f.1.0 ∷ l)) (f.1.1.0.spelled _)))
items_back b (One Kind.Key s) = λ goals f.
    as_items b (One Kind.Key s) goals _ (key_item s f.0.whole f.1.0) f.1.1.1.0 f.1.1.1.1
    (key_item_spelled s f.0.whole f.1.0 _ ∙ ap (λ l. One Kind.Key s ∷ l) (f.0.spelled _))
items_back b (One Kind.Value s) = λ goals f.
    as_items b (One Kind.Value s) goals _ (ValueItem s f.0.whole) f.1.1.0 f.1.1.1 (ap (λ l. One Kind.Value s ∷ l) (f.0.spelled _))
items_back Square (One Kind.SeqClose s) = λ goals f. record { tree = (NoItem, s); others = f; spelled = refl }
items_back Curly (One Kind.SeqClose s) = tt
items_back Square (One Kind.MapClose s) = tt
items_back Curly (One Kind.MapClose s) = λ goals f. record { tree = (NoItem, s); others = f; spelled = refl }
items_back b x = followed_back b x (node_turn InInline None x) (forms_back InInline None x)

-- a value and what follows it
with_value : (mark : ℕ) (k : Value) (v : ValueLeft (InBlock true)) (p : Pairs) → Pairs
with_value mark k no_value (ValueEntry colon v more) = Others (KeyValueEntry mark k colon v more)
with_value mark k no_value (Others more) = Others (KeyEntry mark k more)
with_value mark k (valued colon v) p = Others (KeyValueEntry mark k colon v p)

with_value_spelled : (mark : ℕ) (k : Value) (v : ValueLeft (InBlock true)) (p : Pairs) (rest : List Symbol) →
    pairs (with_value mark k v p) rest ≡ One Kind.Key mark ∷ value k (value_left (InBlock true) v (pairs p rest))
unfolding with_value
with_value_spelled mark k no_value (ValueEntry colon v more) rest = refl
with_value_spelled mark k no_value (Others more) rest = refl
with_value_spelled mark k (valued colon v) p rest = refl

closes_back : (b : BracketKind) (kind : Kind) (s : ℕ) → Back (ItemEnd b) (One kind s) (m.closing_turn b kind)
closes_back Square Kind.SeqClose s = λ goals f. record { tree = no_more s; others = f; spelled = refl }
closes_back Curly Kind.MapClose s = λ goals f. record { tree = no_more s; others = f; spelled = refl }
closes_back _ _ s = tt

value_back : (w : Where) (s : ℕ) → Back (ValueOf w) (One Kind.Value s) (takes (ValueOf w) (One Kind.Value s))
value_back w s = λ goals f. record { tree = valued s f.0.whole; others = f.1; spelled = ap (λ l. One Kind.Value s ∷ l) (f.0.spelled _) }

takes_back : (g : Goal) (x : Symbol) → Back g x (takes g x)
takes_back Prefix (One Kind.Directive s) = λ goals f. record { tree = Marked (s ∷ f.0.0) f.0.1; others = f.1; spelled = refl }
takes_back Prefix (One Kind.DocStart s) = λ goals f. record { tree = Marked [] s; others = f; spelled = refl }
takes_back Directives (One Kind.Directive s) = λ goals f. record { tree = (s ∷ f.0.0, f.0.1); others = f.1; spelled = refl }
takes_back Directives (One Kind.DocStart s) = λ goals f. record { tree = ([], s); others = f; spelled = refl }
takes_back Ending (One Kind.DocEnd s) = λ goals f. record { tree = Some s; others = f; spelled = refl }
takes_back (Formed w ps) x = forms_back w ps x
takes_back g.Entries (One Kind.Entry s) = λ goals f. record { tree = MoreEntries s f.0.whole f.1.0; others = f.1.1; spelled = ap (λ l. One Kind.Entry s ∷ l) (f.0.spelled _) }
takes_back g.Entries Close = λ goals f. record { tree = NoEntry; others = f; spelled = refl }
takes_back g.Indentless (One Kind.Entry s) = λ goals f. record { tree = MoreEntries s f.0.whole f.1.0; others = f.1.1; spelled = ap (λ l. One Kind.Entry s ∷ l) (f.0.spelled _) }
takes_back g.Pairs (BeginKey at) = λ goals f. record {
  tree = Others (PairEntry at f.0.whole f.1.0 f.1.1.0.whole f.1.1.1.0);
  others = f.1.1.1.1;
  spelled = ap (λ l. BeginKey at ∷ l) (f.0.spelled _ ∙ ap (λ l. f.0.tail (One Kind.Value f.1.0 ∷ l)) (f.1.1.0.spelled _));
}
takes_back g.Pairs (One Kind.Key s) = λ goals f. record {
  tree = with_value s f.0.whole f.1.0 f.1.1.0;
  others = f.1.1.1;
  spelled = with_value_spelled s f.0.whole f.1.0 f.1.1.0 _ ∙ ap (λ l. One Kind.Key s ∷ l) (f.0.spelled _);
}
takes_back g.Pairs (One Kind.Value s) = λ goals f. record { tree = ValueEntry s f.0.whole f.1.0; others = f.1.1; spelled = ap (λ l. One Kind.Value s ∷ l) (f.0.spelled _) }
takes_back g.Pairs Close = λ goals f. record { tree = Others NoPair; others = f; spelled = refl }
takes_back (ValueOf InInline) (One Kind.Value s) = value_back InInline s
takes_back (ValueOf (InBlock false)) (One Kind.Value s) = value_back (InBlock false) s
takes_back (ValueOf (InBlock true)) (One Kind.Value s) = value_back (InBlock true) s
takes_back Colon (One Kind.Value s) = λ goals f. record { tree = s; others = f; spelled = refl }
takes_back (g.Items b) x = items_back b x
takes_back (ItemEnd b) (One Kind.Comma s) = λ goals f. record { tree = comma s f.0.0 f.0.1; others = f.1; spelled = refl }
takes_back (ItemEnd b) (One kind s) = closes_back b kind s
takes_back _ _ = tt

-- ---- goals that are left

abbrev Left : Goal → Option (List Outline) → Type 0
Left g None = Unit {0}
Left g (Some es) = (t : Tree g) × ((rest : List Symbol) → spelled_by g t rest ≡ rest)

leaves_back : (g : Goal) → Left g (leaves g)
leaves_back Prefix = (Bare, λ rest. refl)
leaves_back Ending = (None, λ rest. refl)
leaves_back (Formed InInline None) = tt
leaves_back (Formed InInline (Some ps)) = (record { whole = PropertiesNode ps; tail = λ rest. rest; spelled = λ rest. refl }, λ rest. refl)
leaves_back (Formed (InBlock false) None) = (record { whole = Missing; tail = λ rest. rest; spelled = λ rest. refl }, λ rest. refl)
leaves_back (Formed (InBlock true) None) = (record { whole = NodeValue Missing; tail = λ rest. rest; spelled = λ rest. refl }, λ rest. refl)
leaves_back (Formed (InBlock false) (Some ps)) = (record { whole = InlineNode (PropertiesNode ps); tail = λ rest. rest; spelled = λ rest. refl }, λ rest. refl)
leaves_back (Formed (InBlock true) (Some ps)) = (record { whole = NodeValue (InlineNode (PropertiesNode ps)); tail = λ rest. rest; spelled = λ rest. refl }, λ rest. refl)
leaves_back g.Indentless = (NoEntry, λ rest. refl)
leaves_back (ValueOf w) = (no_value, λ rest. refl)
leaves_back (PairEnd b) = (tt, λ rest. refl)
leaves_back (NodeEnd b) = (tt, λ rest. refl)
leaves_back _ = tt

-- ---- a step, and many

-- the goals, before this symbol and these
abbrev pub Fills : List Goal → List Symbol → Type 0
Fills goals ws = (f : Forest goals) × (forest goals f ≡ ws)

abbrev pub Stepped : List Goal → Symbol → Option ParserState → Type 0
Stepped goals x None = Unit {0}
Stepped goals x (Some s) = (f : Forest s.goals) → Fills goals (x ∷ forest s.goals f)

one_more : (g : Goal) (goals : List Goal) (x : Symbol) (t : Tree g) → ((rest : List Symbol) → spelled_by g t rest ≡ rest) →
    (r : Option ParserState) → Stepped goals x r → Stepped (g ∷ goals) x r
one_more g goals x t e None back = tt
one_more g goals x t e (Some s) back = λ f. ((t, (back f).0), e _ ∙ (back f).1)

stepped_back : (g : Goal) (goals : List Goal) (out : List Outline) (x : Symbol) (next : List Outline → Option ParserState) →
    ((out' : List Outline) → Stepped goals x (next out')) →
    (taken : Option Turn) → Back g x taken → (left : Option (List Outline)) → Left g left →
    Stepped (g ∷ goals) x (m.state_after_turn goals out next taken left)
stepped_back g goals out x next rest (Some t) back left l = λ f. let n = back goals f in ((n.tree, n.others), n.spelled)
stepped_back g goals out x next rest None back (Some es) l = one_more g goals x l.0 l.1 (next (out then es)) (rest _)
stepped_back g goals out x next rest None back None l = tt

pub step_back : (goals : List Goal) (out : List Outline) (x : Symbol) → Stepped goals x (step goals out x)
step_back [] out x = tt
step_back (g ∷ goals) out x = stepped_back g goals out x _ (λ out'. step_back goals out' x) (takes g x) (takes_back g x) (leaves g) (leaves_back g)

pub some_spot : ℕ
some_spot = 0

-- the least that fills a goal
pub least : (g : Goal) → Tree g
least Prefix = Bare
least Directives = ([], some_spot)
least Ending = None
least (Formed InInline None) = record { whole = AliasNode some_spot; tail = λ rest. One Kind.Alias some_spot ∷ rest; spelled = λ rest. refl }
least (Formed InInline (Some ps)) = record { whole = PropertiesNode ps; tail = λ rest. rest; spelled = λ rest. refl }
least (Formed (InBlock false) None) = record { whole = Missing; tail = λ rest. rest; spelled = λ rest. refl }
least (Formed (InBlock true) None) = record { whole = NodeValue Missing; tail = λ rest. rest; spelled = λ rest. refl }
least (Formed (InBlock false) (Some ps)) = record { whole = InlineNode (PropertiesNode ps); tail = λ rest. rest; spelled = λ rest. refl }
least (Formed (InBlock true) (Some ps)) = record { whole = NodeValue (InlineNode (PropertiesNode ps)); tail = λ rest. rest; spelled = λ rest. refl }
least g.Entries = NoEntry
least g.Indentless = NoEntry
least g.Pairs = Others NoPair
least (ValueOf w) = no_value
least Colon = some_spot
least (g.Items b) = (NoItem, some_spot)
least (ItemEnd b) = no_more some_spot
least (PairEnd b) = tt
least (NodeEnd b) = tt

pub leasts : (goals : List Goal) → Forest goals
leasts [] = tt
leasts (g ∷ goals) = (least g, leasts goals)

-- ---- the whole input

abbrev pub Finished : List Goal → Option (List Outline) → Type 0
Finished goals None = Unit {0}
Finished goals (Some es) = Fills goals []

finished_on : (g : Goal) (goals : List Goal) (next : List Outline → Option (List Outline)) (out : List Outline) → ((out' : List Outline) → Finished goals (next out')) →
    (left : Option (List Outline)) → Left g left → (r : Option (List Outline)) → r ≡ m.events_after_leaving next out left → Finished (g ∷ goals) r
finished_on g goals next out rest left l None e = tt
finished_on g goals next out rest None l (Some es) e = cc
finished_on g goals next out rest (Some here) l (Some es) e =
    let f = subst (Finished goals) (sym e) (rest (out then here)) in ((l.0, f.0), l.1 _ ∙ f.1)

pub finish_back : (goals : List Goal) (out : List Outline) → Finished goals (finish goals out)
finish_back [] out = (tt, refl)
finish_back (g ∷ goals) out = finished_on g goals _ out (λ out'. finish_back goals out') (leaves g) (leaves_back g) _ refl

abbrev pub Ran : List Goal → List Symbol → Option (List Outline) → Type 0
Ran goals ws None = Unit {0}
Ran goals ws (Some es) = Fills goals ws

ran_on : (goals : List Goal) (x : Symbol) (xs : List Symbol) (next : ParserState → Option (List Outline)) → ((s : ParserState) → Ran s.goals xs (next s)) →
    (r : Option ParserState) → Stepped goals x r → (all : Option (List Outline)) → all ≡ m.onward next r → Ran goals (x ∷ xs) all
ran_on goals x xs next rest r back None e = tt
ran_on goals x xs next rest None back (Some es) e = cc
ran_on goals x xs next rest (Some s) back (Some es) e =
    let f = subst (Ran s.goals xs) (sym e) (rest s) in let g = back f.0 in (g.0, g.1 ∙ ap (λ l. x ∷ l) f.1)

pub run_back : (ws : List Symbol) (goals : List Goal) (out : List Outline) → Ran goals ws (run ws goals out)
run_back [] goals out = finish_back goals out
run_back (x ∷ xs) goals out = ran_on goals x xs _ (λ s. run_back xs s.goals s.events) (step goals out x) (step_back goals out x) _ refl

filled : (s : Start) (n : Formation (InBlock false) None) (e : Option ℕ) → start s (node n.whole (ending e)) ≡ start s (n.tail (end_then e []))
filled s n None = ap (λ l. start s l) (n.spelled [])
filled s n (Some end) = ap (λ l. start s l) (n.spelled _)

-- the document that fills the goals of one
pub document_of : (ws : List Symbol) → Fills m.goals_of_document ws → (d : Document) × (spelling d ≡ ws)
document_of ws f = (record { start = f.0.0; node = f.0.1.0.whole; end = f.0.1.1.0 }, filled f.0.0 f.0.1.0 f.0.1.1.0 ∙ f.1)
