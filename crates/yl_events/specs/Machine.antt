-- Bridge: the parser: a stack of goals, the innermost first, over the marked lexemes.
use Rattle.std.specs.Prelude.{ℕ, suc, Bool, true, false, ◌≡◌, reverse, List, [], ◌∷◌, ◌++◌, Option, Some, None, if◌then◌else◌}
use Rattle.yl_lexeme.specs.declared.lexeme.Kind.{Kind}
use Rattle.yl_marks.specs.declared.symbol.Symbol.{Symbol}
use Rattle.yl_marks.specs.declared.symbol.Symbol.TheVariants.{OpenSequence, OpenMapping, BeginKey, Close, One}
use Rattle.yl_events.specs.declared.symbol.BracketKind.{BracketKind}
use Rattle.yl_events.specs.declared.symbol.BracketKind.TheVariants.{Square, Curly}
use Rattle.yl_events.specs.declared.symbol.Properties.{Properties}
use Rattle.yl_events.specs.declared.symbol.Properties.TheVariants.{Anchored, Tagged, AnchoredTagged, TaggedAnchored}
use Rattle.yl_events.specs.declared.symbol.Outline.{Outline}
use Rattle.yl_events.specs.declared.symbol.Shape.TheVariants.{DocumentStart, DocumentEnd, SequenceStart, SequenceEnd, MappingStart, MappingEnd, Alias, Scalar, Empty}
use Rattle.yl_events.specs.Outlines.{bare_event, node_event, missing_node, end_event, pair_start, pair_end, node_end, ◌then◌}
use Rattle.yl_events.specs.declared.symbol.Where.{Where}
use Rattle.yl_events.specs.declared.symbol.Where.TheVariants.{InInline, InBlock}
use Rattle.yl_events.specs.declared.symbol.Goal.{Goal}
use Rattle.yl_events.specs.declared.symbol.Goal.TheVariants.{Prefix, Directives, Ending, Formed, Entries, Indentless, Pairs, ValueOf, Colon, Items, ItemEnd, PairEnd, NodeEnd}

-- the goals that replace a goal, and the events that are appended
pub record Turn : Type 0 where
  pub goals : List Goal
  pub events : List Outline

abbrev pub turn : List Goal → List Outline → Option Turn
turn goals events = Some (record { goals = goals; events = events })

abbrev pub with_anchor : Option Properties → ℕ → Option Properties
with_anchor None a = Some (Anchored a)
with_anchor (Some (Tagged t)) a = Some (TaggedAnchored t a)
with_anchor _ a = None

abbrev pub with_tag : Option Properties → ℕ → Option Properties
with_tag None t = Some (Tagged t)
with_tag (Some (Anchored a)) t = Some (AnchoredTagged a t)
with_tag _ t = None

-- one property more
abbrev pub property_turn : Where → Option Properties → Option Turn
property_turn w None = None
property_turn w more = turn (Formed w more ∷ []) []

abbrev pub alias_at : Option Properties → ℕ → Option Turn
alias_at None s = turn [] (bare_event Alias (Some s) ∷ [])
alias_at (Some ps) s = None

-- a node after these properties
abbrev pub node_turn : Where → Option Properties → Symbol → Option Turn
node_turn w ps (One Kind.Alias s) = alias_at ps s
node_turn w ps (One Kind.Anchor s) = property_turn w (with_anchor ps s)
node_turn w ps (One Kind.Tag s) = property_turn w (with_tag ps s)
node_turn w ps (One (Kind.Scalar style) s) = turn [] (node_event ps (Scalar style) (Some s) ∷ [])
node_turn w ps (One Kind.SeqOpen s) = turn (Items Square ∷ []) (node_event ps SequenceStart (Some s) ∷ [])
node_turn w ps (One Kind.MapOpen s) = turn (Items Curly ∷ []) (node_event ps MappingStart (Some s) ∷ [])
node_turn (InBlock v) ps (OpenSequence at) = turn (Entries ∷ []) (node_event ps SequenceStart (Some at) ∷ [])
node_turn (InBlock v) ps (OpenMapping at) = turn (Pairs ∷ []) (node_event ps MappingStart (Some at) ∷ [])
node_turn (InBlock true) ps (One Kind.Entry s) = turn (Formed (InBlock false) None ∷ Indentless ∷ []) (node_event ps SequenceStart (Some s) ∷ [])
node_turn _ _ _ = None

abbrev pub turn_before : List Goal → Option Turn → Option Turn
turn_before goals None = None
turn_before goals (Some t) = turn (t.goals ++ goals) t.events

abbrev pub closing_turn : BracketKind → Kind → Option Turn
closing_turn Square Kind.SeqClose = turn [] (end_event SequenceEnd ∷ [])
closing_turn Curly Kind.MapClose = turn [] (end_event MappingEnd ∷ [])
closing_turn _ _ = None

abbrev pub items_take : BracketKind → Symbol → Option Turn
items_take b (BeginKey at) = turn (Formed InInline None ∷ Colon ∷ Formed (InBlock false) None ∷ PairEnd b ∷ ItemEnd b ∷ []) (pair_start b at)
items_take b (One Kind.Key s) = turn (Formed (InBlock false) None ∷ ValueOf (InBlock false) ∷ PairEnd b ∷ ItemEnd b ∷ []) (pair_start b s)
items_take b (One Kind.Value s) = turn (Formed (InBlock false) None ∷ PairEnd b ∷ ItemEnd b ∷ []) (pair_start b s ++ missing_node ∷ [])
items_take b (One Kind.SeqClose s) = closing_turn b Kind.SeqClose
items_take b (One Kind.MapClose s) = closing_turn b Kind.MapClose
items_take b x = turn_before (NodeEnd b ∷ ItemEnd b ∷ []) (node_turn InInline None x)

abbrev pub takes : Goal → Symbol → Option Turn
takes Prefix (One Kind.Directive s) = turn (Directives ∷ []) []
takes Prefix (One Kind.DocStart s) = turn [] []
takes Directives (One Kind.Directive s) = turn (Directives ∷ []) []
takes Directives (One Kind.DocStart s) = turn [] []
takes Ending (One Kind.DocEnd s) = turn [] []
takes (Formed w ps) x = node_turn w ps x
takes Entries (One Kind.Entry s) = turn (Formed (InBlock false) None ∷ Entries ∷ []) []
takes Entries Close = turn [] (end_event SequenceEnd ∷ [])
takes Indentless (One Kind.Entry s) = turn (Formed (InBlock false) None ∷ Indentless ∷ []) []
takes Pairs (BeginKey at) = turn (Formed InInline None ∷ Colon ∷ Formed (InBlock true) None ∷ Pairs ∷ []) []
takes Pairs (One Kind.Key s) = turn (Formed (InBlock true) None ∷ ValueOf (InBlock true) ∷ Pairs ∷ []) []
takes Pairs (One Kind.Value s) = turn (Formed (InBlock true) None ∷ Pairs ∷ []) (missing_node ∷ [])
takes Pairs Close = turn [] (end_event MappingEnd ∷ [])
takes (ValueOf w) (One Kind.Value s) = turn (Formed w None ∷ []) []
takes Colon (One Kind.Value s) = turn [] []
takes (Items b) x = items_take b x
takes (ItemEnd b) (One Kind.Comma s) = turn (Items b ∷ []) []
takes (ItemEnd b) (One kind s) = closing_turn b kind
takes _ _ = None

-- the goal takes some mark
abbrev pub takes_marks : Goal → Bool
takes_marks (Formed w ps) = true
takes_marks Entries = true
takes_marks Pairs = true
takes_marks (Items b) = true
takes_marks _ = false

-- the events of a goal for which no symbol comes, if it may be left
abbrev pub leaves : Goal → Option (List Outline)
leaves Prefix = Some []
leaves Ending = Some []
leaves (Formed InInline None) = None
leaves (Formed w ps) = Some (node_event ps Empty None ∷ [])
leaves Indentless = Some (end_event SequenceEnd ∷ [])
leaves (ValueOf w) = Some (missing_node ∷ [])
leaves (PairEnd b) = Some (pair_end b)
leaves (NodeEnd b) = Some (node_end b)
leaves _ = None

-- the goals and the events after a symbol; None: no goal takes it
pub record ParserState : Type 0 where
  pub goals : List Goal
  pub events : List Outline

abbrev pub state_after_turn : List Goal → List Outline → (List Outline → Option ParserState) → Option Turn → Option (List Outline) → Option ParserState
state_after_turn goals out next (Some t) left = Some (record { goals = t.goals ++ goals; events = out then t.events })
state_after_turn goals out next None (Some es) = next (out then es)
state_after_turn goals out next None None = None

abbrev pub step : List Goal → List Outline → Symbol → Option ParserState
step [] out x = None
step (g ∷ goals) out x = state_after_turn goals out (λ out'. step goals out' x) (takes g x) (leaves g)

abbrev pub events_after_leaving : (List Outline → Option (List Outline)) → List Outline → Option (List Outline) → Option (List Outline)
events_after_leaving next out None = None
events_after_leaving next out (Some es) = next (out then es)

abbrev pub finish : List Goal → List Outline → Option (List Outline)
finish [] out = Some out
finish (g ∷ goals) out = events_after_leaving (λ out'. finish goals out') out (leaves g)

abbrev pub onward : (ParserState → Option (List Outline)) → Option ParserState → Option (List Outline)
onward next None = None
onward next (Some s) = next s

abbrev pub run : List Symbol → List Goal → List Outline → Option (List Outline)
run [] goals out = finish goals out
run (x ∷ xs) goals out = onward (λ s. run xs s.goals s.events) (step goals out x)

abbrev pub goals_of_document : List Goal
goals_of_document = Prefix ∷ Formed (InBlock false) None ∷ Ending ∷ []

abbrev pub events_with_end : Option (List Outline) → Option (List Outline)
events_with_end None = None
events_with_end (Some out) = Some (out ++ end_event DocumentEnd ∷ [])

-- the events of the marked lexemes of a document
abbrev pub parse : List Symbol → Option (List Outline)
parse ws = events_with_end (run ws goals_of_document (bare_event DocumentStart None ∷ []))

-- the number of lexemes that the goals take before they refuse a symbol, or the end
abbrev pub count_with : Symbol → ℕ → ℕ
count_with (One kind s) n = suc n
count_with _ n = n

abbrev pub count_then : Symbol → (ParserState → ℕ) → Option ParserState → ℕ
count_then x next None = 0
count_then x next (Some s) = count_with x (next s)

abbrev pub taken_count : List Symbol → List Goal → List Outline → ℕ
taken_count [] goals out = 0
taken_count (x ∷ xs) goals out = count_then x (λ s. taken_count xs s.goals s.events) (step goals out x)

-- the index of the fault in a document that is not parsed
abbrev pub fault_place : List Symbol → ℕ
fault_place ws = taken_count ws goals_of_document (bare_event DocumentStart None ∷ [])

-- what a goal does to the stack, whose top is last, and to the events; the flag says whether it
-- takes the symbol
abbrev pub AnswersTaking : Option Turn → Bool → (old_goals new_goals : List Goal) → (old_events new_events : List Outline) → Type 0
AnswersTaking None is_taken old new es fs = (is_taken ≡ false) × (new ≡ old) × (fs ≡ es)
AnswersTaking (Some t) is_taken old new es fs = (is_taken ≡ true) × (reverse new ≡ t.goals ++ reverse old) × (fs ≡ es then t.events)

abbrev pub AnswersLeaving : Option (List Outline) → Bool → (old_events new_events : List Outline) → Type 0
AnswersLeaving None is_left es fs = (is_left ≡ false) × (fs ≡ es)
AnswersLeaving (Some more) is_left es fs = (is_left ≡ true) × (fs ≡ es then more)

-- the result of a step, and the stack and the events after it
abbrev pub AnswersStep : Option ParserState → Bool → List Goal → List Outline → Type 0
AnswersStep None is_taken goals events = is_taken ≡ false
AnswersStep (Some s) is_taken goals events = (is_taken ≡ true) × (reverse goals ≡ s.goals) × (events ≡ s.events)

-- the end of the document: all goals are left, or one of them may not be left
abbrev pub AnswersFinish : Option (List Outline) → Bool → List Outline → Type 0
AnswersFinish None is_whole events = is_whole ≡ false
AnswersFinish (Some es) is_whole events = (is_whole ≡ true) × (events ≡ es)
