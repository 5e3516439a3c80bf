-- What the parser tells names the lexemes of the symbols that it is fed, and the anchor that waits.
use Rattle.std.specs.Prelude.{ℕ, suc, ◌≡◌, ◌<◌, ◌≤◌, ◌+◌, refl, Bool, true, false, List, [], ◌∷◌, ◌++◌, length, Option, Some, None, IfSome, if◌then◌else◌}
use Rattle.std.proofs.Common.{sym, subst, arith}
use Rattle.yl_lexeme.specs.declared.lexeme.Kind.{Kind}
use Rattle.yl_marks.specs.declared.token.Token.{Token}
use Rattle.yl_marks.specs.declared.symbol.Symbol.{Symbol}
use Rattle.yl_marks.specs.declared.symbol.Symbol.TheVariants.{OpenSequence, OpenMapping, BeginKey, Close, One}
use Rattle.yl_marks.specs.declared.symbol.KeyedToken.{KeyedToken}
use Rattle.yl_marks.specs.declared.symbol.Marking.{Marking}
use Rattle.yl_marks.specs.declared.symbol.OpenBlock.{OpenBlock}
use Rattle.yl_marks.specs.Marks.{closes_collection, closings, collections_left, collection_to_open, opening, key_mark, closings_of_all, marks_at, open_behind, marking, marks}
use Rattle.yl_marks.specs.ByLine.{MarkerValue, keyed_tokens_of_line, marks_of_line}
use Rattle.yl_events.specs.declared.symbol.BracketKind.{BracketKind}
use Rattle.yl_events.specs.declared.symbol.BracketKind.TheVariants.{Square, Curly}
use Rattle.yl_events.specs.declared.symbol.Properties.{Properties}
use Rattle.yl_events.specs.declared.symbol.Properties.TheVariants.{Anchored, Tagged, AnchoredTagged, TaggedAnchored}
use Rattle.yl_events.specs.declared.symbol.Outline.{Outline}
use Rattle.yl_events.specs.declared.symbol.Shape.{Shape}
use Rattle.yl_events.specs.declared.symbol.Shape.TheVariants.{SequenceStart, MappingStart, Scalar, Empty}
use Rattle.yl_events.specs.declared.symbol.Where.{Where}
use Rattle.yl_events.specs.declared.symbol.Where.TheVariants.{InInline, InBlock}
use Rattle.yl_events.specs.declared.symbol.Goal.{Goal}
use Rattle.yl_events.specs.declared.symbol.Goal.TheVariants as g
use Rattle.yl_events.specs.declared.symbol.Goal.TheVariants.{Formed, Ending, Prefix, Colon, ItemEnd, PairEnd, NodeEnd, Directives, ValueOf}
use Rattle.yl_events.specs.Outlines.{◌then◌, node_event, pair_start}
use Rattle.yl_events.specs.Machine as m
use Rattle.yl_events.specs.Machine.{Turn, ParserState, node_turn, takes, leaves, step, finish, run}
use Rattle.yl_events.specs.DocumentOutcome.{steps_onto, steps}
use Rattle.yl_events.specs.Named.{anchor_among, anchor_of_goal, waiting_anchor, NoneWaits, OnlyInnermostWaits, SymbolNames, SymbolsName, OutlineNames, OutlinesName, IsInLine}
use Rattle.yl_events.proofs.Counts.{line_pieces_count}

module _ (Is : ℕ → Type 0) where
  -- ---- lists

  pub outlines_of_both : (os ps : List Outline) → OutlinesName Is os → OutlinesName Is ps → OutlinesName Is (os ++ ps)
  outlines_of_both [] ps a b = b
  outlines_of_both (o ∷ os) ps a b = (a.0, outlines_of_both os ps a.1 b)

  then_named : (os ps : List Outline) → OutlinesName Is os → OutlinesName Is ps → OutlinesName Is (os then ps)
  then_named os [] a b = a
  then_named os (p ∷ ps) a b = then_named (os ++ p ∷ []) ps (outlines_of_both os (p ∷ []) a (b.0, tt)) b.1

  pub symbols_of_both : (ws vs : List Symbol) → SymbolsName Is ws → SymbolsName Is vs → SymbolsName Is (ws ++ vs)
  symbols_of_both [] vs a b = b
  symbols_of_both (w ∷ ws) vs a b = (a.0, symbols_of_both ws vs a.1 b)

  none_of_both : (gs hs : List Goal) → NoneWaits gs → NoneWaits hs → NoneWaits (gs ++ hs)
  none_of_both [] hs a b = b
  none_of_both (g ∷ gs) hs a b = (a.0, none_of_both gs hs a.1 b)

  only_in_front : (gs hs : List Goal) → OnlyInnermostWaits gs → NoneWaits hs → OnlyInnermostWaits (gs ++ hs)
  only_in_front [] [] a b = tt
  only_in_front [] (h ∷ hs) a b = b.1
  only_in_front (g ∷ gs) hs a b = none_of_both gs hs a b

  none_waits : (hs : List Goal) → NoneWaits hs → IfSome (waiting_anchor hs) Is
  none_waits [] b = tt
  none_waits (h ∷ hs) b = subst (λ o. IfSome o Is) (sym b.0) tt

  only_of_none : (hs : List Goal) → NoneWaits hs → OnlyInnermostWaits hs
  only_of_none [] b = tt
  only_of_none (h ∷ hs) b = b.1

  waits_in_front : (gs hs : List Goal) → IfSome (waiting_anchor gs) Is → NoneWaits hs → IfSome (waiting_anchor (gs ++ hs)) Is
  waits_in_front [] hs a b = none_waits hs b
  waits_in_front (g ∷ gs) hs a b = a

  -- ---- a symbol that a goal takes

  abbrev Turned : Option Turn → Type 0
  Turned None = Unit {0}
  Turned (Some t) = OnlyInnermostWaits t.goals × (IfSome (waiting_anchor t.goals) Is × OutlinesName Is t.events)

  node_named : (ps : Option Properties) (kind : Shape) (place : Option ℕ) → IfSome (anchor_among ps) Is → IfSome place Is → OutlineNames Is (node_event ps kind place)
  node_named None kind place a p = (p, tt)
  node_named (Some (Anchored x)) kind place a p = (p, a)
  node_named (Some (Tagged t)) kind place a p = (p, tt)
  node_named (Some (AnchoredTagged x t)) kind place a p = (p, a)
  node_named (Some (TaggedAnchored t x)) kind place a p = (p, a)

  node_turned : (w : Where) (ps : Option Properties) (x : Symbol) → IfSome (anchor_among ps) Is → SymbolNames Is x → Turned (node_turn w ps x)
  node_turned w None (One Kind.Alias s) a h = (tt, (tt, ((h, tt), tt)))
  node_turned w (Some ps) (One Kind.Alias s) a h = tt
  node_turned w None (One Kind.Anchor s) a h = (tt, (h, tt))
  node_turned w (Some (Tagged t)) (One Kind.Anchor s) a h = (tt, (h, tt))
  node_turned w (Some (Anchored b)) (One Kind.Anchor s) a h = tt
  node_turned w (Some (AnchoredTagged b t)) (One Kind.Anchor s) a h = tt
  node_turned w (Some (TaggedAnchored t b)) (One Kind.Anchor s) a h = tt
  node_turned w None (One Kind.Tag s) a h = (tt, (tt, tt))
  node_turned w (Some (Anchored b)) (One Kind.Tag s) a h = (tt, (a, tt))
  node_turned w (Some (Tagged t)) (One Kind.Tag s) a h = tt
  node_turned w (Some (AnchoredTagged b t)) (One Kind.Tag s) a h = tt
  node_turned w (Some (TaggedAnchored t b)) (One Kind.Tag s) a h = tt
  node_turned w ps (One (Kind.Scalar style) s) a h = (tt, (tt, (node_named ps (Scalar style) (Some s) a h, tt)))
  node_turned w ps (One Kind.SeqOpen s) a h = (tt, (tt, (node_named ps SequenceStart (Some s) a h, tt)))
  node_turned w ps (One Kind.MapOpen s) a h = (tt, (tt, (node_named ps MappingStart (Some s) a h, tt)))
  node_turned InInline ps (OpenSequence at) a h = tt
  node_turned (InBlock v) ps (OpenSequence at) a h = (tt, (tt, (node_named ps SequenceStart (Some at) a h, tt)))
  node_turned InInline ps (OpenMapping at) a h = tt
  node_turned (InBlock v) ps (OpenMapping at) a h = (tt, (tt, (node_named ps MappingStart (Some at) a h, tt)))
  node_turned InInline ps (One Kind.Entry s) a h = tt
  node_turned (InBlock false) ps (One Kind.Entry s) a h = tt
  node_turned (InBlock true) ps (One Kind.Entry s) a h = ((refl, tt), (tt, (node_named ps SequenceStart (Some s) a h, tt)))
  node_turned w ps x a h = tt

  before_turned : (gs : List Goal) → NoneWaits gs → (r : Option Turn) → Turned r → Turned (m.turn_before gs r)
  before_turned gs none None h = tt
  before_turned gs none (Some t) h = (only_in_front t.goals gs h.0 none, (waits_in_front t.goals gs h.1.0 none, h.1.1))

  closing_turned : (b : BracketKind) (kind : Kind) → Turned (m.closing_turn b kind)
  closing_turned Square Kind.SeqClose = (tt, (tt, ((tt, tt), tt)))
  closing_turned Curly Kind.MapClose = (tt, (tt, ((tt, tt), tt)))
  closing_turned _ _ = tt

  pair_named : (b : BracketKind) (s : ℕ) → Is s → OutlinesName Is (pair_start b s)
  pair_named Square s h = ((h, tt), tt)
  pair_named Curly s h = tt

  items_turned : (b : BracketKind) (x : Symbol) → SymbolNames Is x → Turned (m.items_take b x)
  items_turned b (BeginKey at) h = ((refl, (refl, (refl, (refl, tt)))), (tt, pair_named b at h))
  items_turned b (One Kind.Key s) h = ((refl, (refl, (refl, tt))), (tt, pair_named b s h))
  items_turned b (One Kind.Value s) h = ((refl, (refl, tt)), (tt, outlines_of_both (pair_start b s) _ (pair_named b s h) ((tt, tt), tt)))
  items_turned b (One Kind.SeqClose s) h = closing_turned b Kind.SeqClose
  items_turned b (One Kind.MapClose s) h = closing_turned b Kind.MapClose
  items_turned b x h = before_turned (NodeEnd b ∷ ItemEnd b ∷ []) (refl, (refl, tt)) (node_turn InInline None x) (node_turned InInline None x tt h)

  goal_turned : (g : Goal) (x : Symbol) → IfSome (anchor_of_goal g) Is → SymbolNames Is x → Turned (takes g x)
  goal_turned Prefix (One Kind.Directive s) a h = (tt, (tt, tt))
  goal_turned Prefix (One Kind.DocStart s) a h = (tt, (tt, tt))
  goal_turned Directives (One Kind.Directive s) a h = (tt, (tt, tt))
  goal_turned Directives (One Kind.DocStart s) a h = (tt, (tt, tt))
  goal_turned Ending (One Kind.DocEnd s) a h = (tt, (tt, tt))
  goal_turned (Formed w ps) x a h = node_turned w ps x a h
  goal_turned g.Entries (One Kind.Entry s) a h = ((refl, tt), (tt, tt))
  goal_turned g.Entries Close a h = (tt, (tt, ((tt, tt), tt)))
  goal_turned g.Indentless (One Kind.Entry s) a h = ((refl, tt), (tt, tt))
  goal_turned g.Pairs (BeginKey at) a h = ((refl, (refl, (refl, tt))), (tt, tt))
  goal_turned g.Pairs (One Kind.Key s) a h = ((refl, (refl, tt)), (tt, tt))
  goal_turned g.Pairs (One Kind.Value s) a h = ((refl, tt), (tt, ((tt, tt), tt)))
  goal_turned g.Pairs Close a h = (tt, (tt, ((tt, tt), tt)))
  goal_turned (ValueOf w) (One Kind.Value s) a h = (tt, (tt, tt))
  goal_turned Colon (One Kind.Value s) a h = (tt, (tt, tt))
  goal_turned (g.Items b) x a h = items_turned b x h
  goal_turned (ItemEnd b) (One Kind.Comma s) a h = (tt, (tt, tt))
  goal_turned (ItemEnd b) (One kind s) a h = closing_turned b kind
  goal_turned _ _ a h = tt

  -- ---- a goal that is left

  abbrev Left : Option (List Outline) → Type 0
  Left r = IfSome r (OutlinesName Is)

  goal_left : (g : Goal) → IfSome (anchor_of_goal g) Is → Left (leaves g)
  goal_left Prefix a = tt
  goal_left Ending a = tt
  goal_left (Formed InInline None) a = tt
  goal_left (Formed InInline (Some ps)) a = (node_named (Some ps) Empty None a tt, tt)
  goal_left (Formed (InBlock v) ps) a = (node_named ps Empty None a tt, tt)
  goal_left g.Indentless a = ((tt, tt), tt)
  goal_left (ValueOf w) a = ((tt, tt), tt)
  goal_left (PairEnd Square) a = ((tt, tt), tt)
  goal_left (PairEnd Curly) a = tt
  goal_left (NodeEnd Square) a = tt
  goal_left (NodeEnd Curly) a = ((tt, tt), tt)
  goal_left _ a = tt

  -- ---- a step, and many

  -- what is told names these, and the anchor that waits is one of them
  abbrev pub Stepped : Option ParserState → Type 0
  Stepped r = IfSome r (λ s. OnlyInnermostWaits s.goals × (IfSome (waiting_anchor s.goals) Is × OutlinesName Is s.events))

  turned : (goals : List Goal) (out : List Outline) (next : List Outline → Option ParserState) (t : Option Turn) (left : Option (List Outline)) → NoneWaits goals → Turned t → Left left → OutlinesName Is out
      → ((out' : List Outline) → OutlinesName Is out' → Stepped (next out')) → Stepped (m.state_after_turn goals out next t left)
  turned goals out next (Some t) left none h l o rest = (only_in_front t.goals goals h.0 none, (waits_in_front t.goals goals h.1.0 none, then_named out t.events o h.1.1))
  turned goals out next None (Some es) none h l o rest = rest (out then es) (then_named out es o l)
  turned goals out next None None none h l o rest = tt

  step_named : (goals : List Goal) (out : List Outline) (x : Symbol) → OnlyInnermostWaits goals → IfSome (waiting_anchor goals) Is → OutlinesName Is out → SymbolNames Is x → Stepped (step goals out x)
  step_named [] out x only a o h = tt
  step_named (g ∷ goals) out x only a o h =
      turned goals out (λ o. step goals o x) (takes g x) (leaves g) only (goal_turned g x a h) (goal_left g a) o
      (λ out' o'. step_named goals out' x (only_of_none goals only) (none_waits goals only) o' h)

  onto : (next : ParserState → Option ParserState) (r : Option ParserState) → Stepped r → ((s : ParserState) → Stepped (Some s) → Stepped (next s)) → Stepped (steps_onto next r)
  onto next None h rest = tt
  onto next (Some s) h rest = rest s h

  pub steps_named : (ws : List Symbol) (goals : List Goal) (out : List Outline) → OnlyInnermostWaits goals → IfSome (waiting_anchor goals) Is → OutlinesName Is out → SymbolsName Is ws → Stepped (steps ws goals out)
  steps_named [] goals out only a o h = (only, (a, o))
  steps_named (w ∷ ws) goals out only a o h =
      onto (λ s. steps ws s.goals s.events) (step goals out w) (step_named goals out w only a o h.0) (λ s k. steps_named ws s.goals s.events k.0 k.1.0 k.1.1 h.1)

  -- ---- the whole document

  left_on : (next : List Outline → Option (List Outline)) (out : List Outline) (left : Option (List Outline)) → Left left → OutlinesName Is out
      → ((out' : List Outline) → OutlinesName Is out' → Left (next out')) → Left (m.events_after_leaving next out left)
  left_on next out None l o rest = tt
  left_on next out (Some es) l o rest = rest (out then es) (then_named out es o l)

  finish_named : (goals : List Goal) (out : List Outline) → OnlyInnermostWaits goals → IfSome (waiting_anchor goals) Is → OutlinesName Is out → Left (finish goals out)
  finish_named [] out only a o = o
  finish_named (g ∷ goals) out only a o =
      left_on (λ o. finish goals o) out (leaves g) (goal_left g a) o (λ out' o'. finish_named goals out' (only_of_none goals only) (none_waits goals only) o')

  run_onto : (next : ParserState → Option (List Outline)) (r : Option ParserState) → Stepped r → ((s : ParserState) → Stepped (Some s) → Left (next s)) → Left (m.onward next r)
  run_onto next None h rest = tt
  run_onto next (Some s) h rest = rest s h

  pub run_named : (ws : List Symbol) (goals : List Goal) (out : List Outline) → OnlyInnermostWaits goals → IfSome (waiting_anchor goals) Is → OutlinesName Is out → SymbolsName Is ws → Left (run ws goals out)
  run_named [] goals out only a o h = finish_named goals out only a o
  run_named (w ∷ ws) goals out only a o h =
      run_onto (λ s. run ws s.goals s.events) (step goals out w) (step_named goals out w only a o h.0) (λ s k. run_named ws s.goals s.events k.0 k.1.0 k.1.1 h.1)

  -- ---- the symbols of a line

  pub closings_named : (cs : List OpenBlock) → SymbolsName Is (closings_of_all cs)
  closings_named [] = tt
  closings_named (c ∷ cs) = (tt, closings_named cs)

  of_closings : (k : Marking) (cs : List OpenBlock) → SymbolsName Is (closings k cs)
  of_closings k [] = tt
  of_closings k (c ∷ cs) = by_case (closes_collection k c) (of_closings k cs)
    where
      by_case : (b : Bool) → SymbolsName Is (closings k cs) → SymbolsName Is (if b then Close ∷ closings k cs else [])
      by_case true h = (tt, h)
      by_case false h = tt

  of_opening : (new : Option Bool) (i : ℕ) → Is i → SymbolsName Is (opening new i)
  of_opening None i h = tt
  of_opening (Some true) i h = (h, tt)
  of_opening (Some false) i h = (h, tt)

  of_key : (b : Bool) (i : ℕ) → Is i → SymbolsName Is (key_mark b i)
  of_key true i h = (h, tt)
  of_key false i h = tt

  of_one : (k : Marking) (i : ℕ) (cs : List OpenBlock) → Is i → SymbolsName Is (marks_at k i cs)
  of_one k i cs h =
      let new = collection_to_open k (collections_left k cs) in
      symbols_of_both (closings k cs ++ opening new i ++ key_mark k.begins_key i) (One k.piece.kind i ∷ [])
      (symbols_of_both (closings k cs ++ opening new i) (key_mark k.begins_key i) (symbols_of_both (closings k cs) (opening new i) (of_closings k cs) (of_opening new i h)) (of_key k.begins_key i h))
      (h, tt)

  of_marks : (all : List KeyedToken) (cs : List OpenBlock) (i : ℕ) (xs : List KeyedToken) → ((j : ℕ) → i ≤ j → j < i + length xs → Is j) → SymbolsName Is (marks all cs i xs)
  of_marks all cs i [] h = tt
  of_marks all cs i (x ∷ xs) h =
      let k = marking all i x in
      symbols_of_both (marks_at k i cs) _ (of_one k i cs (h i (omega arith) (omega arith)))
      (of_marks all (open_behind k cs) (suc i) xs (λ j l n. h j (omega arith) (omega arith)))

-- the symbols of a line name its lexemes
pub line_named : (b : MarkerValue) (xs : List Token) → SymbolsName (IsInLine b.count (length xs)) (marks_of_line b xs)
line_named b xs =
    let n : length (keyed_tokens_of_line b xs) ≡ length xs = line_pieces_count b.count b.depth b.latest [] xs in
    of_marks (IsInLine b.count (length xs)) (keyed_tokens_of_line b xs) b.open_ones b.count (keyed_tokens_of_line b xs) (λ j l k. (l, omega (arith, n, k)))
