-- A derivation's spelling is parsed, with its events.
use Rattle.std.specs.Prelude.{ℕ, ◌≡◌, refl, Bool, true, false, not, List, [], ◌∷◌, ◌++◌, Option, Some, None}
use Rattle.std.proofs.Common.{sym, ◌∙◌, ap}
use Rattle.yl_lexeme.specs.declared.lexeme.Kind.{Kind}
use Rattle.yl_marks.specs.declared.symbol.Symbol.{Symbol}
use Rattle.yl_marks.specs.declared.symbol.Symbol.TheVariants.{OpenSequence, OpenMapping, Close, One}
use Rattle.yl_events.specs.declared.symbol.BracketKind.{BracketKind}
use Rattle.yl_events.specs.declared.symbol.BracketKind.TheVariants.{Square, Curly}
use Rattle.yl_events.specs.declared.symbol.Properties.{Properties}
use Rattle.yl_events.specs.declared.symbol.Properties.TheVariants.{Anchored, Tagged, AnchoredTagged, TaggedAnchored}
use Rattle.yl_events.specs.Grammar.{Inline, Items, Item, Node, Entries, Value, Pairs, Keyed, Document, AliasNode, PropertiesNode, ScalarNode, Flow, NoItem, LastItem, MoreItems, NodeItem, PairItem, KeyItem, KeyValueItem, ValueItem, Missing, InlineNode, BlockSequence, BlockMapping, NoEntry, MoreEntries, NodeValue, Indentless, ValueEntry, Others, NoPair, PairEntry, KeyEntry, KeyValueEntry, Start, Bare, Marked, optional, inline, items, item, node, entries, value, pairs, keyed, directives, start, ending, spelling, closing}
use Rattle.yl_events.specs.declared.symbol.Outline.{Outline}
use Rattle.yl_events.specs.declared.symbol.Shape.TheVariants.{DocumentStart, SequenceEnd, MappingEnd, Empty}
use Rattle.yl_events.specs.Outlines.{bare_event, node_event, missing_node, end_event, flow_end, pair_start, pair_end, node_end, ◌then◌, inline_events, items_events, item_events, node_events, entries_events, value_events, pairs_events, keyed_events, events}
use Rattle.yl_events.specs.Derives.{Derives}
use Rattle.yl_events.specs.declared.symbol.Goal.TheVariants as g
use Rattle.yl_events.specs.Machine as m
use Rattle.yl_events.specs.declared.symbol.Where.{Where}
use Rattle.yl_events.specs.declared.symbol.Where.TheVariants.{InInline, InBlock}
use Rattle.yl_events.specs.declared.symbol.Goal.{Goal}
use Rattle.yl_events.specs.declared.symbol.Goal.TheVariants.{Formed, Ending, Prefix, Colon, ItemEnd, PairEnd, NodeEnd, Directives, ValueOf}
use Rattle.yl_events.specs.Machine.{node_turn, takes, leaves, step, finish, run, parse}

-- no node goes on or begins with these
abbrev pub ends : Bool → List Symbol → Bool
ends v [] = true
ends v (OpenSequence at ∷ ws) = false
ends v (OpenMapping at ∷ ws) = false
ends v (One Kind.Alias s ∷ ws) = false
ends v (One Kind.Anchor s ∷ ws) = false
ends v (One Kind.Tag s ∷ ws) = false
ends v (One (Kind.Scalar style) s ∷ ws) = false
ends v (One Kind.SeqOpen s ∷ ws) = false
ends v (One Kind.MapOpen s ∷ ws) = false
ends v (One Kind.Entry s ∷ ws) = not v
ends v (x ∷ ws) = true

abbrev in_value : Where → Bool
in_value InInline = false
in_value (InBlock v) = v

-- a goal that takes nothing here is left
left_by : (g : Goal) (goals : List Goal) (x : Symbol) (xs : List Symbol) (out es : List Outline) →
    takes g x ≡ None → leaves g ≡ Some es → run (x ∷ xs) (g ∷ goals) out ≡ run (x ∷ xs) goals (out then es)
left_by g goals x xs out es t l =
    ap (λ r. m.onward (λ s. run xs s.goals s.events) (m.state_after_turn goals out (λ out'. step goals out' x) r (leaves g))) t
    ∙ ap (λ r. m.onward (λ s. run xs s.goals s.events) (m.state_after_turn goals out (λ out'. step goals out' x) None r)) l

no_form : (w : Where) (ps : Option Properties) (x : Symbol) (xs : List Symbol) → ends (in_value w) (x ∷ xs) ≡ true → node_turn w ps x ≡ None
no_form w ps (OpenSequence at) xs e = cc
no_form w ps (OpenMapping at) xs e = cc
no_form w ps (One Kind.Alias s) xs e = cc
no_form w ps (One Kind.Anchor s) xs e = cc
no_form w ps (One Kind.Tag s) xs e = cc
no_form w ps (One (Kind.Scalar style) s) xs e = cc
no_form w ps (One Kind.SeqOpen s) xs e = cc
no_form w ps (One Kind.MapOpen s) xs e = cc
no_form InInline ps (One Kind.Entry s) xs e = refl
no_form (InBlock false) ps (One Kind.Entry s) xs e = refl
no_form (InBlock true) ps (One Kind.Entry s) xs e = cc
no_form w ps x xs e = refl

no_entry : (x : Symbol) (xs : List Symbol) → ends true (x ∷ xs) ≡ true → takes g.Indentless x ≡ None
no_entry (One Kind.Entry s) xs e = cc
no_entry x xs e = refl

-- nothing is read where a node is left out, or nothing follows its properties
left_out : (w : Where) (ps : Option Properties) (goals : List Goal) (rest : List Symbol) (out : List Outline) →
    leaves (Formed w ps) ≡ Some (node_event ps Empty None ∷ []) → ends (in_value w) rest ≡ true →
    run rest (Formed w ps ∷ goals) out ≡ run rest goals (out ++ node_event ps Empty None ∷ [])
left_out w ps goals [] out l e = ap (λ r. m.events_after_leaving (λ out'. finish goals out') out r) l
left_out w ps goals (x ∷ xs) out l e = left_by (Formed w ps) goals x xs out _ (no_form w ps x xs e) l

left_indentless : (goals : List Goal) (rest : List Symbol) (out : List Outline) → ends true rest ≡ true →
    run rest (g.Indentless ∷ goals) out ≡ run rest goals (out ++ end_event SequenceEnd ∷ [])
left_indentless goals [] out e = refl
left_indentless goals (x ∷ xs) out e = left_by g.Indentless goals x xs out _ (no_entry x xs e) refl

pair_done : (b : BracketKind) (goals : List Goal) (rest : List Symbol) (out : List Outline) → run rest (PairEnd b ∷ goals) out ≡ run rest goals (out then pair_end b)
pair_done b goals [] out = refl
pair_done b goals (x ∷ xs) out = refl

node_done : (b : BracketKind) (goals : List Goal) (rest : List Symbol) (out : List Outline) → run rest (NodeEnd b ∷ goals) out ≡ run rest goals (out then node_end b)
node_done b goals [] out = refl
node_done b goals (x ∷ xs) out = refl

-- what ends a value ends a node
ends_both : (rest : List Symbol) → ends true rest ≡ true → ends false rest ≡ true
ends_both [] e = refl
ends_both (One Kind.Entry s ∷ ws) e = refl
ends_both (One Kind.Alias s ∷ ws) e = e
ends_both (OpenSequence at ∷ ws) e = e
ends_both (OpenMapping at ∷ ws) e = e
ends_both (w ∷ ws) e = e

-- the properties of a node are read
behind : (ps : Option Properties) (w : Where) (goals : List Goal) (ws : List Symbol) (out : List Outline) →
    run (optional ps ws) (Formed w None ∷ goals) out ≡ run ws (Formed w ps ∷ goals) out
behind None w goals ws out = refl
behind (Some (Anchored a)) w goals ws out = refl
behind (Some (Tagged t)) w goals ws out = refl
behind (Some (AnchoredTagged a t)) w goals ws out = refl
behind (Some (TaggedAnchored t a)) w goals ws out = refl

-- an item that is a node is read as one
as_item : (n : Inline) (b : BracketKind) (goals : List Goal) (rest : List Symbol) (out : List Outline) →
    run (inline n rest) (g.Items b ∷ goals) out ≡ run (inline n rest) (Formed InInline None ∷ NodeEnd b ∷ ItemEnd b ∷ goals) out
as_item (AliasNode s) b goals rest out = refl
as_item (PropertiesNode (Anchored a)) b goals rest out = refl
as_item (PropertiesNode (Tagged t)) b goals rest out = refl
as_item (PropertiesNode (AnchoredTagged a t)) b goals rest out = refl
as_item (PropertiesNode (TaggedAnchored t a)) b goals rest out = refl
as_item (ScalarNode None style s) b goals rest out = refl
as_item (ScalarNode (Some (Anchored a)) style s) b goals rest out = refl
as_item (ScalarNode (Some (Tagged t)) style s) b goals rest out = refl
as_item (ScalarNode (Some (AnchoredTagged a t)) style s) b goals rest out = refl
as_item (ScalarNode (Some (TaggedAnchored t a)) style s) b goals rest out = refl
as_item (Flow None Square first its last) b goals rest out = refl
as_item (Flow None Curly first its last) b goals rest out = refl
as_item (Flow (Some (Anchored a)) k first its last) b goals rest out = refl
as_item (Flow (Some (Tagged t)) k first its last) b goals rest out = refl
as_item (Flow (Some (AnchoredTagged a t)) k first its last) b goals rest out = refl
as_item (Flow (Some (TaggedAnchored t a)) k first its last) b goals rest out = refl

entries_end : (es : Entries) (rest : List Symbol) → ends false rest ≡ true → ends false (entries es rest) ≡ true
entries_end NoEntry rest e = e
entries_end (MoreEntries dash n more) rest e = refl

pairs_end : (p : Pairs) (rest : List Symbol) → ends true (pairs p (Close ∷ rest)) ≡ true
pairs_end (ValueEntry colon v more) rest = refl
pairs_end (Others NoPair) rest = refl
pairs_end (Others (PairEntry at k colon v more)) rest = refl
pairs_end (Others (KeyEntry mark k more)) rest = refl
pairs_end (Others (KeyValueEntry mark k colon v more)) rest = refl

-- a Key's entry without Value ends
no_value : (k : Keyed) (goals : List Goal) (rest : List Symbol) (out : List Outline) →
    run (keyed k (Close ∷ rest)) (ValueOf (InBlock true) ∷ goals) out ≡ run (keyed k (Close ∷ rest)) goals (out ++ missing_node ∷ [])
no_value NoPair goals rest out = refl
no_value (PairEntry at k colon v more) goals rest out = refl
no_value (KeyEntry mark k more) goals rest out = refl
no_value (KeyValueEntry mark k colon v more) goals rest out = refl

-- what comes behind an item
abbrev is_item_end : List Symbol → Bool
is_item_end (One Kind.Comma s ∷ ws) = true
is_item_end (One Kind.SeqClose s ∷ ws) = true
is_item_end (One Kind.MapClose s ∷ ws) = true
is_item_end _ = false

item_ends : (rest : List Symbol) → is_item_end rest ≡ true → ends false rest ≡ true
item_ends (One Kind.Comma s ∷ ws) e = refl
item_ends (One Kind.SeqClose s ∷ ws) e = refl
item_ends (One Kind.MapClose s ∷ ws) e = refl
item_ends _ e = cc

no_item_value : (goals : List Goal) (rest : List Symbol) (out : List Outline) → is_item_end rest ≡ true →
    run rest (ValueOf (InBlock false) ∷ goals) out ≡ run rest goals (out ++ missing_node ∷ [])
no_item_value goals (One Kind.Comma s ∷ ws) out e = refl
no_item_value goals (One Kind.SeqClose s ∷ ws) out e = refl
no_item_value goals (One Kind.MapClose s ∷ ws) out e = refl
no_item_value goals _ out e = cc

closing_ends : (b : BracketKind) (last : ℕ) (rest : List Symbol) → is_item_end (One (closing b) last ∷ rest) ≡ true
closing_ends Square last rest = refl
closing_ends Curly last rest = refl

closed_by : (b : BracketKind) (last : ℕ) (goals : List Goal) (rest : List Symbol) (out : List Outline) →
    run (One (closing b) last ∷ rest) (ItemEnd b ∷ goals) out ≡ run rest goals (out ++ end_event (flow_end b) ∷ [])
closed_by Square last goals rest out = refl
closed_by Curly last goals rest out = refl

empty_by : (b : BracketKind) (last : ℕ) (goals : List Goal) (rest : List Symbol) (out : List Outline) →
    run (One (closing b) last ∷ rest) (g.Items b ∷ goals) out ≡ run rest goals (out ++ end_event (flow_end b) ∷ [])
empty_by Square last goals rest out = refl
empty_by Curly last goals rest out = refl

leaves_properties : (w : Where) (ps : Properties) → leaves (Formed w (Some ps)) ≡ Some (node_event (Some ps) Empty None ∷ [])
leaves_properties InInline ps = refl
leaves_properties (InBlock v) ps = refl

open_value : (b : BracketKind) (s : ℕ) (goals : List Goal) (ws : List Symbol) (out : List Outline) →
    run (One Kind.Value s ∷ ws) (g.Items b ∷ goals) out ≡ run ws (Formed (InBlock false) None ∷ PairEnd b ∷ ItemEnd b ∷ goals) (out then pair_start b s ++ missing_node ∷ [])
open_value Square s goals ws out = refl
open_value Curly s goals ws out = refl

mutual
  inline_runs : (n : Inline) (w : Where) (goals : List Goal) (rest : List Symbol) (out : List Outline) → ends (in_value w) rest ≡ true →
      run (inline n rest) (Formed w None ∷ goals) out ≡ run rest goals (inline_events n out)
  inline_runs (AliasNode s) w goals rest out e = refl
  inline_runs (PropertiesNode ps) w goals rest out e = behind (Some ps) w goals rest out ∙ left_out w (Some ps) goals rest out (leaves_properties w ps) e
  inline_runs (ScalarNode ps style s) w goals rest out e = behind ps w goals _ out
  inline_runs (Flow ps Square first its last) w goals rest out e = behind ps w goals _ out ∙ items_runs its Square last goals rest _
  inline_runs (Flow ps Curly first its last) w goals rest out e = behind ps w goals _ out ∙ items_runs its Curly last goals rest _

  items_runs : (its : Items) (b : BracketKind) (last : ℕ) (goals : List Goal) (rest : List Symbol) (out : List Outline) →
      run (items its (One (closing b) last ∷ rest)) (g.Items b ∷ goals) out ≡ run rest goals (items_events b its out ++ end_event (flow_end b) ∷ [])
  items_runs NoItem b last goals rest out = empty_by b last goals rest out
  items_runs (LastItem i) b last goals rest out = item_runs i b goals _ out (closing_ends b last rest) ∙ closed_by b last goals rest _
  items_runs (MoreItems i comma more) b last goals rest out = item_runs i b goals _ out refl ∙ items_runs more b last goals rest _

  item_runs : (i : Item) (b : BracketKind) (goals : List Goal) (rest : List Symbol) (out : List Outline) → is_item_end rest ≡ true →
      run (item i rest) (g.Items b ∷ goals) out ≡ run rest (ItemEnd b ∷ goals) (item_events b i out)
  item_runs (NodeItem n) b goals rest out e = as_item n b goals rest out ∙ inline_runs n InInline _ rest out (item_ends rest e) ∙ node_done b _ rest _
  item_runs (PairItem at k colon v) b goals rest out e =
      inline_runs k InInline (Colon ∷ Formed (InBlock false) None ∷ PairEnd b ∷ ItemEnd b ∷ goals) (One Kind.Value colon ∷ node v rest) (out then pair_start b at) refl
      ∙ node_runs v false (PairEnd b ∷ ItemEnd b ∷ goals) rest _ (item_ends rest e) ∙ pair_done b _ rest _
  item_runs (KeyItem mark k) b goals rest out e =
      node_runs k false (ValueOf (InBlock false) ∷ PairEnd b ∷ ItemEnd b ∷ goals) rest (out then pair_start b mark) (item_ends rest e)
      ∙ no_item_value _ rest _ e ∙ pair_done b _ rest _
  item_runs (KeyValueItem mark k colon v) b goals rest out e =
      node_runs k false (ValueOf (InBlock false) ∷ PairEnd b ∷ ItemEnd b ∷ goals) (One Kind.Value colon ∷ node v rest) (out then pair_start b mark) refl
      ∙ node_runs v false (PairEnd b ∷ ItemEnd b ∷ goals) rest _ (item_ends rest e) ∙ pair_done b _ rest _
  item_runs (ValueItem colon v) b goals rest out e =
      open_value b colon goals (node v rest) out ∙ node_runs v false (PairEnd b ∷ ItemEnd b ∷ goals) rest _ (item_ends rest e) ∙ pair_done b _ rest _

  node_runs : (n : Node) (v : Bool) (goals : List Goal) (rest : List Symbol) (out : List Outline) → ends v rest ≡ true →
      run (node n rest) (Formed (InBlock v) None ∷ goals) out ≡ run rest goals (node_events n out)
  node_runs Missing v goals rest out e = left_out (InBlock v) None goals rest out refl e
  node_runs (InlineNode n) v goals rest out e = inline_runs n (InBlock v) goals rest out e
  node_runs (BlockSequence ps at es) v goals rest out e = behind ps (InBlock v) goals _ out ∙ entries_run es goals rest _
  node_runs (BlockMapping ps at more) v goals rest out e = behind ps (InBlock v) goals _ out ∙ pairs_run more goals rest _

  entries_run : (es : Entries) (goals : List Goal) (rest : List Symbol) (out : List Outline) →
      run (entries es (Close ∷ rest)) (g.Entries ∷ goals) out ≡ run rest goals (entries_events es out ++ end_event SequenceEnd ∷ [])
  entries_run NoEntry goals rest out = refl
  entries_run (MoreEntries dash n more) goals rest out = node_runs n false (g.Entries ∷ goals) _ out (entries_end more (Close ∷ rest) refl) ∙ entries_run more goals rest _

  indentless_run : (es : Entries) (goals : List Goal) (rest : List Symbol) (out : List Outline) → ends true rest ≡ true →
      run (entries es rest) (g.Indentless ∷ goals) out ≡ run rest goals (entries_events es out ++ end_event SequenceEnd ∷ [])
  indentless_run NoEntry goals rest out e = left_indentless goals rest out e
  indentless_run (MoreEntries dash n more) goals rest out e = node_runs n false (g.Indentless ∷ goals) _ out (entries_end more rest (ends_both rest e)) ∙ indentless_run more goals rest _ e

  value_runs : (v : Value) (goals : List Goal) (rest : List Symbol) (out : List Outline) → ends true rest ≡ true →
      run (value v rest) (Formed (InBlock true) None ∷ goals) out ≡ run rest goals (value_events v out)
  value_runs (NodeValue n) goals rest out e = node_runs n true goals rest out e
  value_runs (Indentless ps dash n more) goals rest out e =
      behind ps (InBlock true) goals _ out
      ∙ node_runs n false (g.Indentless ∷ goals) _ _ (entries_end more rest (ends_both rest e)) ∙ indentless_run more goals rest _ e

  pairs_run : (p : Pairs) (goals : List Goal) (rest : List Symbol) (out : List Outline) →
      run (pairs p (Close ∷ rest)) (g.Pairs ∷ goals) out ≡ run rest goals (pairs_events p out ++ end_event MappingEnd ∷ [])
  pairs_run (ValueEntry colon v more) goals rest out = value_runs v (g.Pairs ∷ goals) _ _ (pairs_end more rest) ∙ pairs_run more goals rest _
  pairs_run (Others more) goals rest out = keyed_run more goals rest out

  keyed_run : (k : Keyed) (goals : List Goal) (rest : List Symbol) (out : List Outline) →
      run (keyed k (Close ∷ rest)) (g.Pairs ∷ goals) out ≡ run rest goals (keyed_events k out ++ end_event MappingEnd ∷ [])
  keyed_run NoPair goals rest out = refl
  keyed_run (PairEntry at k colon v more) goals rest out =
      inline_runs k InInline (Colon ∷ Formed (InBlock true) None ∷ g.Pairs ∷ goals) _ out refl
      ∙ value_runs v (g.Pairs ∷ goals) _ _ (pairs_end more rest) ∙ pairs_run more goals rest _
  keyed_run (KeyEntry mark k more) goals rest out =
      value_runs k (ValueOf (InBlock true) ∷ g.Pairs ∷ goals) _ out (pairs_end (Others more) rest)
      ∙ no_value more (g.Pairs ∷ goals) rest _ ∙ keyed_run more goals rest _
  keyed_run (KeyValueEntry mark k colon v more) goals rest out =
      value_runs k (ValueOf (InBlock true) ∷ g.Pairs ∷ goals) _ out refl
      ∙ value_runs v (g.Pairs ∷ goals) _ _ (pairs_end more rest) ∙ pairs_run more goals rest _

directives_run : (ds : List ℕ) (s : ℕ) (goals : List Goal) (rest : List Symbol) (out : List Outline) →
    run (directives ds (One Kind.DocStart s ∷ rest)) (Directives ∷ goals) out ≡ run rest goals out
directives_run [] s goals rest out = refl
directives_run (d ∷ ds) s goals rest out = directives_run ds s goals rest out

-- a symbol that begins no marker
abbrev starts_nothing : List Symbol → Bool
starts_nothing (One Kind.Directive s ∷ ws) = false
starts_nothing (One Kind.DocStart s ∷ ws) = false
starts_nothing _ = true

no_start : (goals : List Goal) (rest : List Symbol) (out : List Outline) → starts_nothing rest ≡ true → run rest (Prefix ∷ goals) out ≡ run rest goals out
no_start goals [] out e = refl
no_start goals (One Kind.Directive s ∷ ws) out e = cc
no_start goals (One Kind.DocStart s ∷ ws) out e = cc
no_start goals (w ∷ ws) out e = refl

-- a node begins with no marker
ending_starts : (end : Option ℕ) → starts_nothing (ending end) ≡ true
ending_starts None = refl
ending_starts (Some s) = refl

behind_nothing : (ps : Option Properties) (ws : List Symbol) → starts_nothing ws ≡ true → starts_nothing (optional ps ws) ≡ true
behind_nothing None ws e = e
behind_nothing (Some (Anchored a)) ws e = refl
behind_nothing (Some (Tagged t)) ws e = refl
behind_nothing (Some (AnchoredTagged a t)) ws e = refl
behind_nothing (Some (TaggedAnchored t a)) ws e = refl

node_starts : (n : Node) (rest : List Symbol) → starts_nothing rest ≡ true → starts_nothing (node n rest) ≡ true
node_starts Missing rest e = e
node_starts (InlineNode (AliasNode s)) rest e = refl
node_starts (InlineNode (PropertiesNode ps)) rest e = behind_nothing (Some ps) rest e
node_starts (InlineNode (ScalarNode ps style s)) rest e = behind_nothing ps _ refl
node_starts (InlineNode (Flow ps Square first its last)) rest e = behind_nothing ps _ refl
node_starts (InlineNode (Flow ps Curly first its last)) rest e = behind_nothing ps _ refl
node_starts (BlockSequence ps at es) rest e = behind_nothing ps _ refl
node_starts (BlockMapping ps at more) rest e = behind_nothing ps _ refl

ending_ends : (end : Option ℕ) → ends false (ending end) ≡ true
ending_ends None = refl
ending_ends (Some s) = refl

ending_runs : (end : Option ℕ) (out : List Outline) → run (ending end) (Ending ∷ []) out ≡ Some out
ending_runs None out = refl
ending_runs (Some s) out = refl

body_runs : (n : Node) (end : Option ℕ) (out : List Outline) → run (node n (ending end)) (Formed (InBlock false) None ∷ Ending ∷ []) out ≡ Some (node_events n out)
body_runs n end out = node_runs n false (Ending ∷ []) (ending end) out (ending_ends end) ∙ ending_runs end _

document_runs : (s : Start) (n : Node) (end : Option ℕ) (out : List Outline) → run (start s (node n (ending end))) m.goals_of_document out ≡ Some (node_events n out)
document_runs Bare n end out = no_start _ _ out (node_starts n (ending end) (ending_starts end)) ∙ body_runs n end out
document_runs (Marked [] s) n end out = body_runs n end out
document_runs (Marked (d ∷ ds) s) n end out = directives_run ds s _ _ out ∙ body_runs n end out

pub parsed : (d : Document) → parse (spelling d) ≡ Some (events d)
parsed d = ap m.events_with_end (document_runs d.start d.node d.end (bare_event DocumentStart None ∷ []))

-- a document has at most one list of events
pub one_derivation : (ws : List Symbol) (es fs : List Outline) → Derives ws es → Derives ws fs → es ≡ fs
one_derivation ws es fs a b =
    let one : Some es ≡ parse ws = sym (ap Some a.events) ∙ sym (parsed a.tree) ∙ ap parse a.spelled in
    let other : Some fs ≡ parse ws = sym (ap Some b.events) ∙ sym (parsed b.tree) ∙ ap parse b.spelled in
    cc
