-- Symbols, goals and events are bare where no anchor and no tag has an index, and each other index
-- is moved: what the parser does at a bare symbol with bare goals is, bare, what it does at the
-- symbol with the goals.
use Rattle.std.specs.Prelude.{ℕ, ◌≡◌, refl, true, false, List, [], ◌∷◌, ◌++◌, map, Option, Some, None, option_map}
use Rattle.std.proofs.Common.{sym, ◌∙◌, ap}
use Rattle.std.proofs.lemmas.List.{map-append}
use Rattle.yl_lexeme.specs.declared.lexeme.Kind.{Kind}
use Rattle.yl_marks.specs.declared.symbol.Symbol.{Symbol}
use Rattle.yl_marks.specs.declared.symbol.Symbol.TheVariants.{OpenSequence, OpenMapping, BeginKey, Close, One}
use Rattle.yl_events.specs.declared.symbol.BracketKind.{BracketKind}
use Rattle.yl_events.specs.declared.symbol.BracketKind.TheVariants.{Square, Curly}
use Rattle.yl_events.specs.declared.symbol.Properties.{Properties}
use Rattle.yl_events.specs.declared.symbol.Properties.TheVariants.{Anchored, Tagged, AnchoredTagged, TaggedAnchored}
use Rattle.yl_events.specs.declared.symbol.Outline.{Outline}
use Rattle.yl_events.specs.declared.symbol.Shape.{Shape}
use Rattle.yl_events.specs.declared.symbol.Shape.TheVariants.{SequenceStart, MappingStart, Scalar, Empty}
use Rattle.yl_events.specs.declared.symbol.Where.{Where}
use Rattle.yl_events.specs.declared.symbol.Where.TheVariants.{InInline, InBlock}
use Rattle.yl_events.specs.declared.symbol.Goal.{Goal}
use Rattle.yl_events.specs.declared.symbol.Goal.TheVariants.{Prefix, Directives, Ending, Formed, Entries, Indentless, Pairs, ValueOf, Colon, Items, ItemEnd, PairEnd, NodeEnd}
use Rattle.yl_events.specs.Outlines.{node_event, missing_node, pair_start, pair_end, node_end, ◌then◌}
use Rattle.yl_events.specs.Machine as m
use Rattle.yl_events.specs.Machine.{Turn, ParserState, turn, with_anchor, with_tag, property_turn, alias_at, node_turn, turn_before, closing_turn, items_take, takes, leaves, state_after_turn, step, events_after_leaving, finish, run, taken_count}
use Rattle.yl_events.specs.DocumentOutcome.{steps, steps_onto}
use Rattle.yl_events.specs.State.{properties_state, goal_state}

module _ (moved : ℕ → ℕ) where
  -- ---- what is bare

  abbrev pub bare_index : Kind → ℕ → ℕ
  bare_index Kind.Anchor i = 0
  bare_index Kind.Tag i = 0
  bare_index kind i = moved i

  abbrev pub bare_symbol : Symbol → Symbol
  bare_symbol (OpenSequence i) = OpenSequence (moved i)
  bare_symbol (OpenMapping i) = OpenMapping (moved i)
  bare_symbol (BeginKey i) = BeginKey (moved i)
  bare_symbol Close = Close
  bare_symbol (One kind i) = One kind (bare_index kind i)

  abbrev pub bare_outline : Outline → Outline
  bare_outline o = record { kind = o.kind; is_tagged = o.is_tagged; place = option_map moved o.place; anchor = option_map (λ a. 0) o.anchor }

  abbrev pub bare_events : List Outline → List Outline
  bare_events es = map bare_outline es

  abbrev pub bare_state : Option ParserState → Option ParserState
  bare_state None = None
  bare_state (Some s) = Some (record { goals = map goal_state s.goals; events = bare_events s.events })

  abbrev bare_turn : Option Turn → Option Turn
  bare_turn None = None
  bare_turn (Some t) = Some (record { goals = map goal_state t.goals; events = bare_events t.events })

  -- ---- a node

  with_anchor_bare : (ps : Option Properties) (a : ℕ) → with_anchor (option_map properties_state ps) 0 ≡ option_map properties_state (with_anchor ps a)
  with_anchor_bare None a = refl
  with_anchor_bare (Some (Tagged t)) a = refl
  with_anchor_bare (Some ps) a = refl

  with_tag_bare : (ps : Option Properties) (t : ℕ) → with_tag (option_map properties_state ps) 0 ≡ option_map properties_state (with_tag ps t)
  with_tag_bare None t = refl
  with_tag_bare (Some (Anchored a)) t = refl
  with_tag_bare (Some ps) t = refl

  property_turn_bare : (w : Where) (more : Option Properties) → property_turn w (option_map properties_state more) ≡ bare_turn (property_turn w more)
  property_turn_bare w None = refl
  property_turn_bare w (Some ps) = refl

  alias_bare : (ps : Option Properties) (s : ℕ) → alias_at (option_map properties_state ps) (moved s) ≡ bare_turn (alias_at ps s)
  alias_bare None s = refl
  alias_bare (Some ps) s = refl

  node_event_bare : (ps : Option Properties) (kind : Shape) (place : Option ℕ) →
      node_event (option_map properties_state ps) kind (option_map moved place) ≡ bare_outline (node_event ps kind place)
  node_event_bare None kind place = refl
  node_event_bare (Some (Anchored a)) kind place = refl
  node_event_bare (Some (Tagged t)) kind place = refl
  node_event_bare (Some (AnchoredTagged a t)) kind place = refl
  node_event_bare (Some (TaggedAnchored t a)) kind place = refl

  -- an event that begins a node, and these goals
  node_start_bare : (goals : List Goal) (ps : Option Properties) (kind : Shape) (s : ℕ) →
      turn (map goal_state goals) (node_event (option_map properties_state ps) kind (Some (moved s)) ∷ []) ≡ bare_turn (turn goals (node_event ps kind (Some s) ∷ []))
  node_start_bare goals ps kind s = ap (λ e. turn (map goal_state goals) (e ∷ [])) (node_event_bare ps kind (Some s))

  node_turn_bare : (w : Where) (ps : Option Properties) (x : Symbol) → node_turn w (option_map properties_state ps) (bare_symbol x) ≡ bare_turn (node_turn w ps x)
  node_turn_bare w ps (One Kind.Alias s) = alias_bare ps s
  node_turn_bare w ps (One Kind.Anchor s) = ap (property_turn w) (with_anchor_bare ps s) ∙ property_turn_bare w (with_anchor ps s)
  node_turn_bare w ps (One Kind.Tag s) = ap (property_turn w) (with_tag_bare ps s) ∙ property_turn_bare w (with_tag ps s)
  node_turn_bare w ps (One (Kind.Scalar style) s) = node_start_bare [] ps (Scalar style) s
  node_turn_bare w ps (One Kind.SeqOpen s) = node_start_bare (Items Square ∷ []) ps SequenceStart s
  node_turn_bare w ps (One Kind.MapOpen s) = node_start_bare (Items Curly ∷ []) ps MappingStart s
  node_turn_bare (InBlock v) ps (OpenSequence at) = node_start_bare (Entries ∷ []) ps SequenceStart at
  node_turn_bare (InBlock v) ps (OpenMapping at) = node_start_bare (Pairs ∷ []) ps MappingStart at
  node_turn_bare (InBlock true) ps (One Kind.Entry s) = node_start_bare (Formed (InBlock false) None ∷ Indentless ∷ []) ps SequenceStart s
  node_turn_bare _ _ _ = refl

  -- ---- an item

  turn_before_bare : (goals : List Goal) (t : Option Turn) → turn_before (map goal_state goals) (bare_turn t) ≡ bare_turn (turn_before goals t)
  turn_before_bare goals None = refl
  turn_before_bare goals (Some t) = ap (λ gs. turn gs (bare_events t.events)) (sym (map-append goal_state t.goals goals))

  closing_bare : (b : BracketKind) (kind : Kind) → closing_turn b kind ≡ bare_turn (closing_turn b kind)
  closing_bare Square Kind.SeqClose = refl
  closing_bare Curly Kind.MapClose = refl
  closing_bare _ _ = refl

  pair_start_bare : (b : BracketKind) (at : ℕ) → pair_start b (moved at) ≡ bare_events (pair_start b at)
  pair_start_bare Square at = refl
  pair_start_bare Curly at = refl

  pair_end_bare : (b : BracketKind) → pair_end b ≡ bare_events (pair_end b)
  pair_end_bare Square = refl
  pair_end_bare Curly = refl

  node_end_bare : (b : BracketKind) → node_end b ≡ bare_events (node_end b)
  node_end_bare Square = refl
  node_end_bare Curly = refl

  missing_key_bare : (b : BracketKind) (at : ℕ) → pair_start b (moved at) ++ missing_node ∷ [] ≡ bare_events (pair_start b at ++ missing_node ∷ [])
  missing_key_bare Square at = refl
  missing_key_bare Curly at = refl

  items_take_bare : (b : BracketKind) (x : Symbol) → items_take b (bare_symbol x) ≡ bare_turn (items_take b x)
  items_take_bare b (BeginKey at) = ap (turn (Formed InInline None ∷ Colon ∷ Formed (InBlock false) None ∷ PairEnd b ∷ ItemEnd b ∷ [])) (pair_start_bare b at)
  items_take_bare b (One Kind.Key s) = ap (turn (Formed (InBlock false) None ∷ ValueOf (InBlock false) ∷ PairEnd b ∷ ItemEnd b ∷ [])) (pair_start_bare b s)
  items_take_bare b (One Kind.Value s) = ap (turn (Formed (InBlock false) None ∷ PairEnd b ∷ ItemEnd b ∷ [])) (missing_key_bare b s)
  items_take_bare b (One Kind.SeqClose s) = closing_bare b Kind.SeqClose
  items_take_bare b (One Kind.MapClose s) = closing_bare b Kind.MapClose
  items_take_bare b x =
      ap (turn_before (NodeEnd b ∷ ItemEnd b ∷ [])) (node_turn_bare InInline None x)
      ∙ turn_before_bare (NodeEnd b ∷ ItemEnd b ∷ []) (node_turn InInline None x)

  -- ---- a goal

  takes_bare : (g : Goal) (x : Symbol) → takes (goal_state g) (bare_symbol x) ≡ bare_turn (takes g x)
  takes_bare Prefix (One Kind.Directive s) = refl
  takes_bare Prefix (One Kind.DocStart s) = refl
  takes_bare Directives (One Kind.Directive s) = refl
  takes_bare Directives (One Kind.DocStart s) = refl
  takes_bare Ending (One Kind.DocEnd s) = refl
  takes_bare (Formed w ps) x = node_turn_bare w ps x
  takes_bare Entries (One Kind.Entry s) = refl
  takes_bare Entries Close = refl
  takes_bare Indentless (One Kind.Entry s) = refl
  takes_bare Pairs (BeginKey at) = refl
  takes_bare Pairs (One Kind.Key s) = refl
  takes_bare Pairs (One Kind.Value s) = refl
  takes_bare Pairs Close = refl
  takes_bare (ValueOf w) (One Kind.Value s) = refl
  takes_bare Colon (One Kind.Value s) = refl
  takes_bare (Items b) x = items_take_bare b x
  takes_bare (ItemEnd b) (One Kind.Comma s) = refl
  takes_bare (ItemEnd b) (One kind s) = closing_bare b kind
  takes_bare _ _ = refl

  leaves_bare : (g : Goal) → leaves (goal_state g) ≡ option_map (λ es. bare_events es) (leaves g)
  leaves_bare (Formed InInline None) = refl
  leaves_bare (Formed InInline (Some ps)) = ap (λ e. Some (e ∷ [])) (node_event_bare (Some ps) Empty None)
  leaves_bare (Formed (InBlock v) ps) = ap (λ e. Some (e ∷ [])) (node_event_bare ps Empty None)
  leaves_bare (PairEnd b) = ap Some (pair_end_bare b)
  leaves_bare (NodeEnd b) = ap Some (node_end_bare b)
  leaves_bare g = refl

  then_bare : (out es : List Outline) → (bare_events out then bare_events es) ≡ bare_events (out then es)
  then_bare out [] = refl
  then_bare out (e ∷ es) = ap (λ o. o then bare_events es) (sym (map-append bare_outline out (e ∷ []))) ∙ then_bare (out ++ e ∷ []) es

  -- ---- a symbol

  turned : (goals : List Goal) (out : List Outline) (next next' : List Outline → Option ParserState) (t : Option Turn) (left : Option (List Outline)) →
      ((o : List Outline) → next' (bare_events o) ≡ bare_state (next o)) →
      state_after_turn (map goal_state goals) (bare_events out) next' (bare_turn t) (option_map (λ es. bare_events es) left)
      ≡ bare_state (state_after_turn goals out next t left)
  turned goals out next next' (Some t) left h =
      ap (λ gs. Some (record { goals = gs; events = bare_events out then bare_events t.events })) (sym (map-append goal_state t.goals goals))
      ∙ ap (λ o. Some (record { goals = map goal_state (t.goals ++ goals); events = o })) (then_bare out t.events)
  turned goals out next next' None (Some es) h = ap next' (then_bare out es) ∙ h (out then es)
  turned goals out next next' None None h = refl

  step_bare : (goals : List Goal) (out : List Outline) (x : Symbol) → step (map goal_state goals) (bare_events out) (bare_symbol x) ≡ bare_state (step goals out x)
  step_bare [] out x = refl
  step_bare (g ∷ goals) out x =
      ap (λ t. state_after_turn (map goal_state goals) (bare_events out) (λ o. step (map goal_state goals) o (bare_symbol x)) t (leaves (goal_state g))) (takes_bare g x)
      ∙ ap (state_after_turn (map goal_state goals) (bare_events out) (λ o. step (map goal_state goals) o (bare_symbol x)) (bare_turn (takes g x))) (leaves_bare g)
      ∙ turned goals out (λ o. step goals o x) (λ o. step (map goal_state goals) o (bare_symbol x)) (takes g x) (leaves g) (λ o. step_bare goals o x)

  -- ---- the end

  left_bare : (out : List Outline) (next next' : List Outline → Option (List Outline)) (left : Option (List Outline)) →
      ((o : List Outline) → next' (bare_events o) ≡ option_map (λ es. bare_events es) (next o)) →
      events_after_leaving next' (bare_events out) (option_map (λ es. bare_events es) left) ≡ option_map (λ es. bare_events es) (events_after_leaving next out left)
  left_bare out next next' None h = refl
  left_bare out next next' (Some es) h = ap next' (then_bare out es) ∙ h (out then es)

  finish_bare : (goals : List Goal) (out : List Outline) → finish (map goal_state goals) (bare_events out) ≡ option_map (λ es. bare_events es) (finish goals out)
  finish_bare [] out = refl
  finish_bare (g ∷ goals) out =
      ap (events_after_leaving (λ o. finish (map goal_state goals) o) (bare_events out)) (leaves_bare g)
      ∙ left_bare out (λ o. finish goals o) (λ o. finish (map goal_state goals) o) (leaves g) (finish_bare goals)

  -- ---- all symbols

  onward_bare : (next next' : ParserState → Option (List Outline)) (r : Option ParserState) →
      ((s : ParserState) → next' (record { goals = map goal_state s.goals; events = bare_events s.events }) ≡ option_map (λ es. bare_events es) (next s)) →
      m.onward next' (bare_state r) ≡ option_map (λ es. bare_events es) (m.onward next r)
  onward_bare next next' None h = refl
  onward_bare next next' (Some s) h = h s

  pub run_bare : (ws : List Symbol) (goals : List Goal) (out : List Outline) →
      run (map bare_symbol ws) (map goal_state goals) (bare_events out) ≡ option_map (λ es. bare_events es) (run ws goals out)
  run_bare [] goals out = finish_bare goals out
  run_bare (w ∷ ws) goals out =
      ap (m.onward (λ s. run (map bare_symbol ws) s.goals s.events)) (step_bare goals out w)
      ∙ onward_bare (λ s. run ws s.goals s.events) (λ s. run (map bare_symbol ws) s.goals s.events) (step goals out w) (λ s. run_bare ws s.goals s.events)

  count_bare : (w : Symbol) (next next' : ParserState → ℕ) (r : Option ParserState) →
      ((s : ParserState) → next' (record { goals = map goal_state s.goals; events = bare_events s.events }) ≡ next s) →
      m.count_then (bare_symbol w) next' (bare_state r) ≡ m.count_then w next r
  count_bare w next next' None h = refl
  count_bare (One kind i) next next' (Some s) h = ap (m.count_with (One kind i)) (h s)
  count_bare w next next' (Some s) h = h s

  pub taken_bare : (ws : List Symbol) (goals : List Goal) (out : List Outline) →
      taken_count (map bare_symbol ws) (map goal_state goals) (bare_events out) ≡ taken_count ws goals out
  taken_bare [] goals out = refl
  taken_bare (w ∷ ws) goals out =
      ap (m.count_then (bare_symbol w) (λ s. taken_count (map bare_symbol ws) s.goals s.events)) (step_bare goals out w)
      ∙ count_bare w (λ s. taken_count ws s.goals s.events) (λ s. taken_count (map bare_symbol ws) s.goals s.events) (step goals out w)
      (λ s. taken_bare ws s.goals s.events)

  onto_bare : (next next' : ParserState → Option ParserState) (r : Option ParserState) →
      ((s : ParserState) → next' (record { goals = map goal_state s.goals; events = bare_events s.events }) ≡ bare_state (next s)) →
      steps_onto next' (bare_state r) ≡ bare_state (steps_onto next r)
  onto_bare next next' None h = refl
  onto_bare next next' (Some s) h = h s

  pub steps_bare : (ws : List Symbol) (goals : List Goal) (out : List Outline) →
      steps (map bare_symbol ws) (map goal_state goals) (bare_events out) ≡ bare_state (steps ws goals out)
  steps_bare [] goals out = refl
  steps_bare (w ∷ ws) goals out =
      ap (steps_onto (λ s. steps (map bare_symbol ws) s.goals s.events)) (step_bare goals out w)
      ∙ onto_bare (λ s. steps ws s.goals s.events) (λ s. steps (map bare_symbol ws) s.goals s.events) (step goals out w) (λ s. steps_bare ws s.goals s.events)
