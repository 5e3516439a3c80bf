-- What is read off the anchors and aliases of a document's events is what is read off those of its symbols.
use Rattle.std.specs.Prelude.{ℕ, ◌≡◌, refl, List, [], ◌∷◌, ◌++◌, Option, Some, None, IfSome, Bool, true, false}
use Rattle.std.proofs.Common.{sym, ◌∙◌, ap, subst, append_assoc, append-nil}
use Rattle.std.specs.List.{flat_map}
use Rattle.std.proofs.lemmas.Grind.{flat_map-append}
use Rattle.yl_lexeme.specs.declared.lexeme.Kind.{Kind}
use Rattle.yl_marks.specs.declared.symbol.Symbol.{Symbol}
use Rattle.yl_marks.specs.declared.symbol.Symbol.TheVariants.{OpenSequence, OpenMapping, BeginKey, Close, One}
use Rattle.yl_events.specs.declared.symbol.BracketKind.{BracketKind}
use Rattle.yl_events.specs.declared.symbol.BracketKind.TheVariants.{Square, Curly}
use Rattle.yl_events.specs.declared.symbol.Properties.{Properties}
use Rattle.yl_events.specs.declared.symbol.Properties.TheVariants.{Anchored, Tagged, AnchoredTagged, TaggedAnchored}
use Rattle.yl_events.specs.declared.symbol.Outline.{Outline}
use Rattle.yl_events.specs.declared.symbol.Shape.{Shape}
use Rattle.yl_events.specs.declared.symbol.Shape.TheVariants.{Alias, SequenceStart, SequenceEnd, MappingEnd, MappingStart, Scalar, Empty, DocumentStart, DocumentEnd}
use Rattle.yl_events.specs.declared.symbol.Where.{Where}
use Rattle.yl_events.specs.declared.symbol.Where.TheVariants.{InInline, InBlock}
use Rattle.yl_events.specs.declared.symbol.Goal.{Goal}
use Rattle.yl_events.specs.declared.symbol.Goal.TheVariants as g
use Rattle.yl_events.specs.declared.symbol.Goal.TheVariants.{Formed, Ending, Prefix, Colon, ItemEnd, PairEnd, NodeEnd, Directives, ValueOf}
use Rattle.yl_events.specs.Outlines.{◌then◌, bare_event, node_event, missing_node, end_event}
use Rattle.yl_events.specs.Machine as m
use Rattle.yl_events.specs.Machine.{Turn, ParserState, node_turn, takes, leaves, step, finish, run, taken_count}
use Rattle.yl_events.specs.Trail.{TrailValue, no_trail}
use Rattle.yl_events.specs.DocumentOutcome.{Events, document_outcome}
use Rattle.yl_events.specs.Parsing.{start_events}
use Rattle.yl_events.specs.SymbolParsing.{symbols_at_start, outcome_of_symbols}
use Rattle.yl_events.specs.Named.{anchor_among, anchor_of_goal, waiting_anchor, NoneWaits, OnlyInnermostWaits}

abbrev pub is_alias : Shape → Bool
is_alias Alias = true
is_alias _ = false

-- what is read off an anchor that may be there
abbrev pub of_anchor : {A : Type 0} → (ℕ → List A) → Option ℕ → List A
of_anchor declares None = []
of_anchor declares (Some i) = declares i

-- what is read off a lexeme of this kind
abbrev pub of_kind : {A : Type 0} → (declares uses : ℕ → List A) → Kind → ℕ → List A
of_kind declares uses Kind.Anchor i = declares i
of_kind declares uses Kind.Alias i = uses i
of_kind declares uses _ i = []

abbrev pub of_symbol : {A : Type 0} → (declares uses : ℕ → List A) → Symbol → List A
of_symbol declares uses (One kind i) = of_kind declares uses kind i
of_symbol declares uses _ = []

-- what is read off an outline, by its kind, its place and its anchor
abbrev pub of_outline : {A : Type 0} → (Shape → Option ℕ → Option ℕ → List A) → Outline → List A
of_outline tell o = tell o.kind o.place o.anchor

-- ---- goals

none_of_both : (gs hs : List Goal) → NoneWaits gs → NoneWaits hs → NoneWaits (gs ++ hs)
none_of_both [] hs a b = b
none_of_both (g ∷ gs) hs a b = (a.0, none_of_both gs hs a.1 b)

only_in_front : (gs hs : List Goal) → OnlyInnermostWaits gs → NoneWaits hs → OnlyInnermostWaits (gs ++ hs)
only_in_front [] [] a b = tt
only_in_front [] (h ∷ hs) a b = b.1
only_in_front (g ∷ gs) hs a b = none_of_both gs hs a b

only_of_none : (hs : List Goal) → NoneWaits hs → OnlyInnermostWaits hs
only_of_none [] b = tt
only_of_none (h ∷ hs) b = b.1

-- an alias tells its use, and any other outline its anchor
module _ {A : Type 0} (tell : Shape → Option ℕ → Option ℕ → List A) (declares uses : ℕ → List A) (alias_told : (i : ℕ) → tell Alias (Some i) None ≡ uses i)
    (other_told : (kind : Shape) (place anchor : Option ℕ) → is_alias kind ≡ false → tell kind place anchor ≡ of_anchor declares anchor) where
  abbrev told : List Outline → List A
  told os = flat_map (of_outline tell) os

  abbrev heard : Symbol → List A
  heard x = of_symbol declares uses x

  -- what is read off the anchor whose node the innermost goal is to read
  abbrev waiting : List Goal → List A
  waiting goals = of_anchor declares (waiting_anchor goals)

  -- ---- lists

  told_then : (os ps : List Outline) → told (os then ps) ≡ told os ++ told ps
  told_then os [] = sym (append-nil (told os))
  told_then os (p ∷ ps) =
      told_then (os ++ p ∷ []) ps
      ∙ ap (λ (rs : List A). rs ++ told ps) (flat_map-append (of_outline tell) os (p ∷ []) ∙ ap (λ (rs : List A). told os ++ rs) (append-nil (of_outline tell p)))
      ∙ append_assoc (told os) (of_outline tell p) (told ps)

  none_waiting : (hs : List Goal) → NoneWaits hs → waiting hs ≡ []
  none_waiting [] b = refl
  none_waiting (h ∷ hs) b = ap (of_anchor declares) b.0

  waiting_in_front : (gs hs : List Goal) → NoneWaits hs → waiting (gs ++ hs) ≡ waiting gs
  waiting_in_front [] hs b = none_waiting hs b
  waiting_in_front (g ∷ gs) hs b = refl

  one_told : (o : Outline) (rs : List A) → of_outline tell o ≡ rs → told (o ∷ []) ++ [] ≡ rs
  one_told o rs e = append-nil (of_outline tell o ++ []) ∙ append-nil (of_outline tell o) ∙ e

  -- a node that is no alias tells the anchor among its properties
  node_told : (ps : Option Properties) (kind : Shape) (place : Option ℕ) → is_alias kind ≡ false → of_outline tell (node_event ps kind place) ≡ of_anchor declares (anchor_among ps)
  node_told None kind place e = other_told kind place None e
  node_told (Some (Anchored a)) kind place e = other_told kind place (Some a) e
  node_told (Some (Tagged t)) kind place e = other_told kind place None e
  node_told (Some (AnchoredTagged a t)) kind place e = other_told kind place (Some a) e
  node_told (Some (TaggedAnchored t a)) kind place e = other_told kind place (Some a) e

  -- the same, before goals that wait for nothing
  node_alone : (ps : Option Properties) (kind : Shape) (place : Option ℕ) → is_alias kind ≡ false → told (node_event ps kind place ∷ []) ++ [] ≡ of_anchor declares (anchor_among ps) ++ []
  node_alone ps kind place e = one_told (node_event ps kind place) (of_anchor declares (anchor_among ps)) (node_told ps kind place e) ∙ sym (append-nil (of_anchor declares (anchor_among ps)))

  bare_alone : (kind : Shape) (place : Option ℕ) → is_alias kind ≡ false → told (bare_event kind place ∷ []) ++ [] ≡ []
  bare_alone kind place e = one_told (bare_event kind place) [] (other_told kind place None e)

  -- ---- a symbol that a goal takes

  -- no anchor waits but in the innermost of the goals that come, and it and what is told are these
  abbrev Turned : List A → Option Turn → Type 0
  Turned rs None = Unit {0}
  Turned rs (Some t) = OnlyInnermostWaits t.goals × (told t.events ++ waiting t.goals ≡ rs)

  node_turned : (w : Where) (ps : Option Properties) (x : Symbol) → Turned (of_anchor declares (anchor_among ps) ++ heard x) (node_turn w ps x)
  node_turned w None (One Kind.Alias s) = (tt, one_told (bare_event Alias (Some s)) (uses s) (alias_told s))
  node_turned w (Some ps) (One Kind.Alias s) = tt
  node_turned w None (One Kind.Anchor s) = (tt, refl)
  node_turned w (Some (Tagged t)) (One Kind.Anchor s) = (tt, refl)
  node_turned w (Some (Anchored b)) (One Kind.Anchor s) = tt
  node_turned w (Some (AnchoredTagged b t)) (One Kind.Anchor s) = tt
  node_turned w (Some (TaggedAnchored t b)) (One Kind.Anchor s) = tt
  node_turned w None (One Kind.Tag s) = (tt, refl)
  node_turned w (Some (Anchored b)) (One Kind.Tag s) = (tt, sym (append-nil (declares b)))
  node_turned w (Some (Tagged t)) (One Kind.Tag s) = tt
  node_turned w (Some (AnchoredTagged b t)) (One Kind.Tag s) = tt
  node_turned w (Some (TaggedAnchored t b)) (One Kind.Tag s) = tt
  node_turned w ps (One (Kind.Scalar style) s) = (tt, node_alone ps (Scalar style) (Some s) refl)
  node_turned w ps (One Kind.SeqOpen s) = (tt, node_alone ps SequenceStart (Some s) refl)
  node_turned w ps (One Kind.MapOpen s) = (tt, node_alone ps MappingStart (Some s) refl)
  node_turned InInline ps (OpenSequence at) = tt
  node_turned (InBlock v) ps (OpenSequence at) = (tt, node_alone ps SequenceStart (Some at) refl)
  node_turned InInline ps (OpenMapping at) = tt
  node_turned (InBlock v) ps (OpenMapping at) = (tt, node_alone ps MappingStart (Some at) refl)
  node_turned InInline ps (One Kind.Entry s) = tt
  node_turned (InBlock false) ps (One Kind.Entry s) = tt
  node_turned (InBlock true) ps (One Kind.Entry s) = ((refl, tt), node_alone ps SequenceStart (Some s) refl)
  node_turned w ps x = tt

  before_turned : (gs : List Goal) (rs : List A) → NoneWaits gs → (r : Option Turn) → Turned rs r → Turned rs (m.turn_before gs r)
  before_turned gs rs none None h = tt
  before_turned gs rs none (Some t) h =
      (only_in_front t.goals gs h.0 none, ap (λ (ws : List A). told t.events ++ ws) (waiting_in_front t.goals gs none) ∙ h.1)

  closing_turned : (b : BracketKind) (kind : Kind) (s : ℕ) → Turned (of_kind declares uses kind s) (m.closing_turn b kind)
  closing_turned Square Kind.SeqClose s = (tt, bare_alone SequenceEnd None refl)
  closing_turned Curly Kind.MapClose s = (tt, bare_alone MappingEnd None refl)
  closing_turned _ _ s = tt

  items_turned : (b : BracketKind) (x : Symbol) → Turned (heard x) (m.items_take b x)
  items_turned Square (BeginKey at) = ((refl, (refl, (refl, (refl, tt)))), bare_alone MappingStart (Some at) refl)
  items_turned Curly (BeginKey at) = ((refl, (refl, (refl, (refl, tt)))), refl)
  items_turned Square (One Kind.Key s) = ((refl, (refl, (refl, tt))), bare_alone MappingStart (Some s) refl)
  items_turned Curly (One Kind.Key s) = ((refl, (refl, (refl, tt))), refl)
  items_turned Square (One Kind.Value s) =
      ((refl, (refl, tt)), ap (λ (rs : List A). (rs ++ told (missing_node ∷ [])) ++ []) (other_told MappingStart (Some s) None refl) ∙ bare_alone Empty None refl)
  items_turned Curly (One Kind.Value s) = ((refl, (refl, tt)), bare_alone Empty None refl)
  items_turned b (One Kind.SeqClose s) = closing_turned b Kind.SeqClose s
  items_turned b (One Kind.MapClose s) = closing_turned b Kind.MapClose s
  items_turned b x = before_turned (NodeEnd b ∷ ItemEnd b ∷ []) (heard x) (refl, (refl, tt)) (node_turn InInline None x) (node_turned InInline None x)

  goal_turned : (g : Goal) (x : Symbol) → Turned (of_anchor declares (anchor_of_goal g) ++ heard x) (takes g x)
  goal_turned Prefix (One Kind.Directive s) = (tt, refl)
  goal_turned Prefix (One Kind.DocStart s) = (tt, refl)
  goal_turned Directives (One Kind.Directive s) = (tt, refl)
  goal_turned Directives (One Kind.DocStart s) = (tt, refl)
  goal_turned Ending (One Kind.DocEnd s) = (tt, refl)
  goal_turned (Formed w ps) x = node_turned w ps x
  goal_turned g.Entries (One Kind.Entry s) = ((refl, tt), refl)
  goal_turned g.Entries Close = (tt, bare_alone SequenceEnd None refl)
  goal_turned g.Indentless (One Kind.Entry s) = ((refl, tt), refl)
  goal_turned g.Pairs (BeginKey at) = ((refl, (refl, (refl, tt))), refl)
  goal_turned g.Pairs (One Kind.Key s) = ((refl, (refl, tt)), refl)
  goal_turned g.Pairs (One Kind.Value s) = ((refl, tt), bare_alone Empty None refl)
  goal_turned g.Pairs Close = (tt, bare_alone MappingEnd None refl)
  goal_turned (ValueOf w) (One Kind.Value s) = (tt, refl)
  goal_turned Colon (One Kind.Value s) = (tt, refl)
  goal_turned (g.Items b) x = items_turned b x
  goal_turned (ItemEnd b) (One Kind.Comma s) = (tt, refl)
  goal_turned (ItemEnd b) (One kind s) = closing_turned b kind s
  goal_turned _ _ = tt

  -- ---- a goal that is left

  -- its anchor is told
  abbrev Left : List A → Option (List Outline) → Type 0
  Left rs r = IfSome r (λ es. told es ≡ rs)

  node_left : (ps : Option Properties) → told (node_event ps Empty None ∷ []) ≡ of_anchor declares (anchor_among ps)
  node_left ps = append-nil (of_outline tell (node_event ps Empty None)) ∙ node_told ps Empty None refl

  bare_left : (kind : Shape) → is_alias kind ≡ false → told (end_event kind ∷ []) ≡ []
  bare_left kind e = append-nil (of_outline tell (end_event kind)) ∙ other_told kind None None e

  goal_left : (g : Goal) → Left (of_anchor declares (anchor_of_goal g)) (leaves g)
  goal_left Prefix = refl
  goal_left Ending = refl
  goal_left (Formed InInline None) = tt
  goal_left (Formed InInline (Some ps)) = node_left (Some ps)
  goal_left (Formed (InBlock v) ps) = node_left ps
  goal_left g.Indentless = bare_left SequenceEnd refl
  goal_left (ValueOf w) = bare_left Empty refl
  goal_left (PairEnd Square) = bare_left MappingEnd refl
  goal_left (PairEnd Curly) = refl
  goal_left (NodeEnd Square) = refl
  goal_left (NodeEnd Curly) = bare_left Empty refl
  goal_left _ = tt

  -- ---- a step

  -- what is told, and then what waits, is this
  abbrev Tells : List A → (goals : List Goal) (out : List Outline) → Type 0
  Tells rs goals out = OnlyInnermostWaits goals × (told out ++ waiting goals ≡ rs)

  abbrev Stepped : List A → Option ParserState → Type 0
  Stepped rs r = IfSome r (λ s. Tells rs s.goals s.events)

  -- a goal that is left tells what waited
  tells_left : (rs : List A) (g : Goal) (goals : List Goal) (out es : List Outline) → Tells rs (g ∷ goals) out → told es ≡ of_anchor declares (anchor_of_goal g) → Tells rs goals (out then es)
  tells_left rs g goals out es h l = (
    only_of_none goals h.0,
    ap (λ (ws : List A). told (out then es) ++ ws) (none_waiting goals h.0) ∙ append-nil (told (out then es)) ∙ told_then out es
        ∙ ap (λ (ws : List A). told out ++ ws) l ∙ h.1,
  )

  -- a goal that takes a symbol tells what waited and the symbol's, or lets them wait
  tells_turned : (rs new : List A) (g : Goal) (goals : List Goal) (out : List Outline) (t : Turn) → Tells rs (g ∷ goals) out →
      Turned (of_anchor declares (anchor_of_goal g) ++ new) (Some t) → Tells (rs ++ new) (t.goals ++ goals) (out then t.events)
  tells_turned rs new g goals out t h k = (
    only_in_front t.goals goals k.0 h.0,
    ap (λ (ws : List A). told (out then t.events) ++ ws) (waiting_in_front t.goals goals h.0)
        ∙ ap (λ (ws : List A). ws ++ waiting t.goals) (told_then out t.events)
        ∙ append_assoc (told out) (told t.events) (waiting t.goals)
        ∙ ap (λ (ws : List A). told out ++ ws) k.1
        ∙ sym (append_assoc (told out) (of_anchor declares (anchor_of_goal g)) new)
        ∙ ap (λ (ws : List A). ws ++ new) h.1,
  )

  turned : (rs new : List A) (g : Goal) (goals : List Goal) (out : List Outline) (next : List Outline → Option ParserState) (t : Option Turn) (left : Option (List Outline)) → Tells rs (g ∷ goals) out →
      Turned (of_anchor declares (anchor_of_goal g) ++ new) t → Left (of_anchor declares (anchor_of_goal g)) left →
      ((out' : List Outline) → Tells rs goals out' → Stepped (rs ++ new) (next out')) → Stepped (rs ++ new) (m.state_after_turn goals out next t left)
  turned rs new g goals out next (Some t) left h k l rest = tells_turned rs new g goals out t h k
  turned rs new g goals out next None (Some es) h k l rest = rest (out then es) (tells_left rs g goals out es h l)
  turned rs new g goals out next None None h k l rest = tt

  step_told : (rs : List A) (goals : List Goal) (out : List Outline) (x : Symbol) → Tells rs goals out → Stepped (rs ++ heard x) (step goals out x)
  step_told rs [] out x h = tt
  step_told rs (g ∷ goals) out x h =
      turned rs (heard x) g goals out (λ o. step goals o x) (takes g x) (leaves g) h (goal_turned g x) (goal_left g) (λ out' h'. step_told rs goals out' x h')

  -- ---- the whole document

  left_on : (rs : List A) (g : Goal) (goals : List Goal) (out : List Outline) (next : List Outline → Option (List Outline)) (left : Option (List Outline)) → Tells rs (g ∷ goals) out →
      Left (of_anchor declares (anchor_of_goal g)) left → ((out' : List Outline) → Tells rs goals out' → Left rs (next out')) → Left rs (m.events_after_leaving next out left)
  left_on rs g goals out next None h l rest = tt
  left_on rs g goals out next (Some es) h l rest = rest (out then es) (tells_left rs g goals out es h l)

  finish_told : (rs : List A) (goals : List Goal) (out : List Outline) → Tells rs goals out → Left rs (finish goals out)
  finish_told rs [] out h = sym (append-nil (told out)) ∙ h.1
  finish_told rs (g ∷ goals) out h = left_on rs g goals out (λ o. finish goals o) (leaves g) h (goal_left g) (λ out' h'. finish_told rs goals out' h')

  run_onto : (rs all : List A) (next : ParserState → Option (List Outline)) (r : Option ParserState) → Stepped rs r → ((s : ParserState) → Tells rs s.goals s.events → Left all (next s)) →
      Left all (m.onward next r)
  run_onto rs all next None h rest = tt
  run_onto rs all next (Some s) h rest = rest s h

  run_told : (rs : List A) (ws : List Symbol) (goals : List Goal) (out : List Outline) → Tells rs goals out → Left (rs ++ flat_map heard ws) (run ws goals out)
  run_told rs [] goals out h = subst (λ all. Left all (finish goals out)) (sym (append-nil rs)) (finish_told rs goals out h)
  run_told rs (w ∷ ws) goals out h =
      subst (λ all. Left all (run (w ∷ ws) goals out)) (append_assoc rs (heard w) (flat_map heard ws))
      (run_onto (rs ++ heard w) ((rs ++ heard w) ++ flat_map heard ws) (λ s. run ws s.goals s.events) (step goals out w) (step_told rs goals out w h)
      (λ s k. run_told (rs ++ heard w) ws s.goals s.events k))

  -- of the events of a document's start and end nothing is read
  outcome_told : (rs : List A) (t : TrailValue) (count place : ℕ) (ws : List Symbol) (r : Option (List Outline)) (es : List Outline) → Left rs r →
      document_outcome t count place ws r ≡ Events es → told es ≡ rs
  outcome_told rs t count place ws None es h e = cc
  outcome_told rs t count place ws (Some os) es h e =
      let all : os ++ end_event DocumentEnd ∷ [] ≡ es = cc in
      ap told (sym all) ∙ flat_map-append (of_outline tell) os (end_event DocumentEnd ∷ []) ∙ ap (λ (rs : List A). told os ++ rs) (bare_left DocumentEnd refl) ∙ append-nil (told os) ∙ h

  pub events_tell_symbols : (ws : List Symbol) (es : List Outline) → outcome_of_symbols symbols_at_start 0 start_events ws ≡ Events es →
      flat_map (of_outline tell) es ≡ flat_map (of_symbol declares uses) ws
  events_tell_symbols ws es e =
      outcome_told (flat_map heard ws) no_trail 0 (taken_count ws m.goals_of_document start_events) ws (run ws m.goals_of_document start_events) es
      (run_told [] ws m.goals_of_document start_events ((refl, (refl, tt)), bare_alone DocumentStart None refl)) e
