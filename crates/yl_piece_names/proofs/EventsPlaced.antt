-- The scalars that the parser tells of symbols have a place.
use Rattle.std.proofs.Common.{◌≡◌, ℕ, true, false, List, [], ◌∷◌, ◌++◌, map, Option, Some, None, refl}
use Rattle.std.specs.Prelude.{IfSome, is_some, option_map}
use Rattle.std.specs.List.{AllByRecursion}
use Rattle.yl_text.proofs.Every.{all_both}
use Rattle.yl_lexeme.specs.declared.lexeme.Kind.{Kind}
use Rattle.yl_lexeme.specs.declared.lexeme.Style.TheVariants.{Plain, Single, Double}
use Rattle.yl_lexeme.specs.Lexeme.{LexemeValue}
use Rattle.yl_marks.specs.declared.symbol.Symbol.{Symbol}
use Rattle.yl_marks.specs.declared.symbol.Symbol.TheVariants.{OpenSequence, OpenMapping, BeginKey, Close, One}
use Rattle.yl_events.specs.declared.symbol.BracketKind.{BracketKind}
use Rattle.yl_events.specs.declared.symbol.BracketKind.TheVariants.{Square, Curly}
use Rattle.yl_events.specs.declared.symbol.Properties.{Properties}
use Rattle.yl_events.specs.declared.symbol.Properties.TheVariants.{Anchored, Tagged, AnchoredTagged, TaggedAnchored}
use Rattle.yl_events.specs.declared.symbol.Outline.{Outline}
use Rattle.yl_events.specs.declared.symbol.Shape.{Shape}
use Rattle.yl_events.specs.declared.symbol.Shape.TheVariants.{MappingStart, Scalar, SequenceStart, Empty}
use Rattle.yl_events.specs.declared.symbol.Where.{Where}
use Rattle.yl_events.specs.declared.symbol.Where.TheVariants.{InInline, InBlock}
use Rattle.yl_events.specs.declared.symbol.Goal.{Goal}
use Rattle.yl_events.specs.declared.symbol.Goal.TheVariants as g
use Rattle.yl_events.specs.declared.symbol.Goal.TheVariants.{Formed, Ending, Prefix, Colon, ItemEnd, PairEnd, NodeEnd, Directives, ValueOf}
use Rattle.yl_events.specs.DocumentOutcome.{steps, steps_onto}
use Rattle.yl_events.specs.Event.{kind_of, start_at}
use Rattle.yl_events.specs.Outlines.{◌then◌, node_event}
use Rattle.yl_events.specs.Machine as m
use Rattle.yl_events.specs.Machine.{ParserState, Turn, leaves, node_turn, step, takes}
use Rattle.yl_tree.specs.Keys.{compared_value}
use Rattle.yl_record.specs.Records.{RecordValue}
use Rattle.yl_sections.specs.Sections.{lexemes_from}
use Rattle.yl_pieces.specs.State.{DocumentState}
use Rattle.yl_pieces.specs.Told.{symbols_in}
use Rattle.yl_pieces.specs.Events.{event_alone, events_in, outlines_in, outlines_told}
use Rattle.yl_piece_names.specs.Asked.{HasPlace}

-- a scalar has a place
abbrev IsPlaced : Shape → Option ℕ → Type 0
IsPlaced (Scalar style) place = is_some place ≡ true
IsPlaced _ place = Unit {0}

abbrev ArePlaced : List Outline → Type 0
ArePlaced os = AllByRecursion (λ o. IsPlaced o.kind o.place) os

both_placed : (os ps : List Outline) → ArePlaced os → ArePlaced ps → ArePlaced (os then ps)
both_placed os [] h k = h
both_placed os (p ∷ ps) h k = both_placed (os ++ p ∷ []) ps (all_both (λ o. IsPlaced o.kind o.place) os (p ∷ []) h (k.0, tt)) k.1

node_placed : (ps : Option Properties) (kind : Shape) (place : Option ℕ) → IsPlaced kind place → ArePlaced (node_event ps kind place ∷ [])
node_placed None kind place h = (h, tt)
node_placed (Some (Anchored a)) kind place h = (h, tt)
node_placed (Some (Tagged t)) kind place h = (h, tt)
node_placed (Some (AnchoredTagged a t)) kind place h = (h, tt)
node_placed (Some (TaggedAnchored t a)) kind place h = (h, tt)

-- ---- a symbol that a goal takes

abbrev Turned : Option Turn → Type 0
Turned r = IfSome r (λ t. ArePlaced t.events)

alias_turned : (ps : Option Properties) (s : ℕ) → Turned (m.alias_at ps s)
alias_turned None s = (tt, tt)
alias_turned (Some ps) s = tt

property_turned : (w : Where) (more : Option Properties) → Turned (m.property_turn w more)
property_turned w None = tt
property_turned w (Some ps) = tt

node_turned : (w : Where) (ps : Option Properties) (x : Symbol) → Turned (node_turn w ps x)
node_turned w ps (One Kind.Alias s) = alias_turned ps s
node_turned w ps (One Kind.Anchor s) = property_turned w (m.with_anchor ps s)
node_turned w ps (One Kind.Tag s) = property_turned w (m.with_tag ps s)
node_turned w ps (One (Kind.Scalar style) s) = node_placed ps (Scalar style) (Some s) refl
node_turned w ps (One Kind.SeqOpen s) = node_placed ps SequenceStart (Some s) tt
node_turned w ps (One Kind.MapOpen s) = node_placed ps MappingStart (Some s) tt
node_turned InInline ps (OpenSequence at) = tt
node_turned (InBlock v) ps (OpenSequence at) = node_placed ps SequenceStart (Some at) tt
node_turned InInline ps (OpenMapping at) = tt
node_turned (InBlock v) ps (OpenMapping at) = node_placed ps MappingStart (Some at) tt
node_turned InInline ps (One Kind.Entry s) = tt
node_turned (InBlock false) ps (One Kind.Entry s) = tt
node_turned (InBlock true) ps (One Kind.Entry s) = node_placed ps SequenceStart (Some s) tt
node_turned w ps x = tt

before_turned : (gs : List Goal) (r : Option Turn) → Turned r → Turned (m.turn_before gs r)
before_turned gs None h = tt
before_turned gs (Some t) h = h

closing_turned : (b : BracketKind) (kind : Kind) → Turned (m.closing_turn b kind)
closing_turned Square Kind.SeqClose = (tt, tt)
closing_turned Curly Kind.MapClose = (tt, tt)
closing_turned _ _ = tt

items_turned : (b : BracketKind) (x : Symbol) → Turned (m.items_take b x)
items_turned Square (BeginKey at) = (tt, tt)
items_turned Curly (BeginKey at) = tt
items_turned Square (One Kind.Key s) = (tt, tt)
items_turned Curly (One Kind.Key s) = tt
items_turned Square (One Kind.Value s) = (tt, (tt, tt))
items_turned Curly (One Kind.Value s) = (tt, tt)
items_turned b (One Kind.SeqClose s) = closing_turned b Kind.SeqClose
items_turned b (One Kind.MapClose s) = closing_turned b Kind.MapClose
items_turned b x = before_turned (NodeEnd b ∷ ItemEnd b ∷ []) (node_turn InInline None x) (node_turned InInline None x)

goal_turned : (g : Goal) (x : Symbol) → Turned (takes g x)
goal_turned Prefix (One Kind.Directive s) = tt
goal_turned Prefix (One Kind.DocStart s) = tt
goal_turned Directives (One Kind.Directive s) = tt
goal_turned Directives (One Kind.DocStart s) = tt
goal_turned Ending (One Kind.DocEnd s) = tt
goal_turned (Formed w ps) x = node_turned w ps x
goal_turned g.Entries (One Kind.Entry s) = tt
goal_turned g.Entries Close = (tt, tt)
goal_turned g.Indentless (One Kind.Entry s) = tt
goal_turned g.Pairs (BeginKey at) = tt
goal_turned g.Pairs (One Kind.Key s) = tt
goal_turned g.Pairs (One Kind.Value s) = (tt, tt)
goal_turned g.Pairs Close = (tt, tt)
goal_turned (ValueOf w) (One Kind.Value s) = tt
goal_turned Colon (One Kind.Value s) = tt
goal_turned (g.Items b) x = items_turned b x
goal_turned (ItemEnd b) (One Kind.Comma s) = tt
goal_turned (ItemEnd b) (One kind s) = closing_turned b kind
goal_turned _ _ = tt

-- ---- a goal that is left

goal_left : (g : Goal) → IfSome (leaves g) ArePlaced
goal_left Prefix = tt
goal_left Ending = tt
goal_left (Formed InInline None) = tt
goal_left (Formed InInline (Some ps)) = node_placed (Some ps) Empty None tt
goal_left (Formed (InBlock v) ps) = node_placed ps Empty None tt
goal_left g.Indentless = (tt, tt)
goal_left (ValueOf w) = (tt, tt)
goal_left (PairEnd Square) = (tt, tt)
goal_left (PairEnd Curly) = tt
goal_left (NodeEnd Square) = tt
goal_left (NodeEnd Curly) = (tt, tt)
goal_left _ = tt

-- ---- symbols

abbrev Stepped : Option ParserState → Type 0
Stepped r = IfSome r (λ s. ArePlaced s.events)

turned : (goals : List Goal) (out : List Outline) (next : List Outline → Option ParserState) (t : Option Turn) (left : Option (List Outline)) → ArePlaced out → Turned t → IfSome left ArePlaced
    → ((o : List Outline) → ArePlaced o → Stepped (next o)) → Stepped (m.state_after_turn goals out next t left)
turned goals out next (Some t) left h k l rest = both_placed out t.events h k
turned goals out next None (Some es) h k l rest = rest (out then es) (both_placed out es h l)
turned goals out next None None h k l rest = tt

step_placed : (goals : List Goal) (out : List Outline) (x : Symbol) → ArePlaced out → Stepped (step goals out x)
step_placed [] out x h = tt
step_placed (g ∷ goals) out x h = turned goals out (λ o. step goals o x) (takes g x) (leaves g) h (goal_turned g x) (goal_left g) (λ o k. step_placed goals o x k)

onto_placed : (next : ParserState → Option ParserState) (r : Option ParserState) → Stepped r → ((s : ParserState) → ArePlaced s.events → Stepped (next s)) → Stepped (steps_onto next r)
onto_placed next None h rest = tt
onto_placed next (Some s) h rest = rest s h

steps_placed : (ws : List Symbol) (goals : List Goal) (out : List Outline) → ArePlaced out → Stepped (steps ws goals out)
steps_placed [] goals out h = h
steps_placed (w ∷ ws) goals out h = onto_placed (λ s. steps ws s.goals s.events) (step goals out w) (step_placed goals out w h) (λ s k. steps_placed ws s.goals s.events k)

told_placed : (r : Option ParserState) → Stepped r → ArePlaced (outlines_told r)
told_placed None h = tt
told_placed (Some s) h = h

-- ---- events

there : (xs : List LexemeValue) (place : Option ℕ) → is_some place ≡ true → is_some (option_map (start_at xs) place) ≡ true
there xs None h = cc
there xs (Some i) h = refl

kind_placed : (xs : List LexemeValue) (kind : Shape) (place : Option ℕ) → IsPlaced kind place → IfSome (compared_value (kind_of xs kind place)) (λ name. is_some (option_map (start_at xs) place) ≡ true)
kind_placed xs (Scalar Plain) place h = there xs place h
kind_placed xs (Scalar Single) place h = there xs place h
kind_placed xs (Scalar Double) place h = there xs place h
kind_placed xs _ place h = tt

all_placed : (xs : List LexemeValue) (os : List Outline) → ArePlaced os → AllByRecursion HasPlace (map (event_alone xs) os)
all_placed xs [] h = tt
all_placed xs (o ∷ os) h = (kind_placed xs o.kind o.place h.0, all_placed xs os h.1)

pub events_placed : (s : DocumentState) (line : ℕ) (rs : List RecordValue) → AllByRecursion HasPlace (events_in s line rs)
events_placed s line rs =
    all_placed (lexemes_from line rs) (outlines_in s line rs) (told_placed (steps (symbols_in s line rs) s.parser.goals []) (steps_placed (symbols_in s line rs) s.parser.goals [] tt))
