-- Where the parser takes all symbols of a document, no other document begins at one of them.
use Rattle.std.specs.Prelude.{ℕ, ◌≡◌, refl, false, true, List, [], ◌∷◌, ◌++◌, Option, Some, None}
use Rattle.std.specs.Option.{option_map_or}
use Rattle.std.proofs.Common.{sym, subst, append_assoc}
use Rattle.yl_lexeme.specs.declared.lexeme.Kind.{Kind}
use Rattle.yl_marks.specs.declared.symbol.Symbol.{Symbol}
use Rattle.yl_marks.specs.declared.symbol.Symbol.TheVariants.{OpenSequence, OpenMapping, BeginKey, Close, One}
use Rattle.yl_events.specs.declared.symbol.BracketKind.{BracketKind}
use Rattle.yl_events.specs.declared.symbol.BracketKind.TheVariants.{Square, Curly}
use Rattle.yl_events.specs.declared.symbol.Properties.{Properties}
use Rattle.yl_events.specs.declared.symbol.Outline.{Outline}
use Rattle.yl_events.specs.declared.symbol.Where.{Where}
use Rattle.yl_events.specs.declared.symbol.Where.TheVariants.{InInline, InBlock}
use Rattle.yl_events.specs.declared.symbol.Goal.{Goal}
use Rattle.yl_events.specs.declared.symbol.Goal.TheVariants.{Prefix, Directives, Ending, Formed, Entries, Indentless, Pairs, ValueOf, Colon, Items, ItemEnd, NodeEnd}
use Rattle.yl_events.specs.Outlines.{◌then◌}
use Rattle.yl_events.specs.Documents.{is_document_end, is_document_start}
use Rattle.yl_events.specs.Cut.{is_beginning}
use Rattle.yl_events.specs.Machine.{ParserState, Turn, closing_turn, goals_of_document, items_take, leaves, node_turn, property_turn, state_after_turn, step, takes, turn_before, with_anchor, with_tag}
use Rattle.yl_events.specs.DocumentOutcome.{steps, steps_onto}

-- the kinds of the lexemes among symbols
abbrev pub kinds_among : List Symbol → List Kind
kinds_among [] = []
kinds_among (One kind i ∷ ws) = kind ∷ kinds_among ws
kinds_among (w ∷ ws) = kinds_among ws

-- no document begins with a lexeme of these kinds, where the last one before them is of this kind
abbrev pub NoneBegins : Option Kind → List Kind → Type 0
NoneBegins last [] = Unit {0}
NoneBegins last (k ∷ ks) = (option_map_or (λ l. is_beginning l k) last false ≡ false) × NoneBegins (Some k) ks

-- ---- goals inside a document

-- its directives have ended, and its end is the last goal
abbrev IsInside : List Goal → Type 0
IsInside [] = Unit {0}
IsInside (Prefix ∷ gs) = ⊥
IsInside (Directives ∷ gs) = ⊥
IsInside (Ending ∷ gs) = gs ≡ []
IsInside (g ∷ gs) = IsInside gs

-- without the innermost one
behind : (g : Goal) (gs : List Goal) → IsInside (g ∷ gs) → IsInside gs
behind Prefix gs h = absurd h
behind Directives gs h = absurd h
behind Ending gs h = subst IsInside (sym h) tt
behind g gs h = h

-- what holds of the goals that a turn leaves, and of those that a step leaves
abbrev TurnHas : (List Goal → Type 0) → List Goal → Option Turn → Type 0
TurnHas P gs None = Unit {0}
TurnHas P gs (Some t) = P (t.goals ++ gs)

abbrev StepHas : (List Goal → Type 0) → Option ParserState → Type 0
StepHas P None = Unit {0}
StepHas P (Some s) = P s.goals

by_turn : (P : List Goal → Type 0) (gs : List Goal) (out : List Outline) (next : List Outline → Option ParserState) (r : Option Turn) (left : Option (List Outline)) → TurnHas P gs r
    → ((o : List Outline) → StepHas P (next o)) → StepHas P (state_after_turn gs out next r left)
by_turn P gs out next (Some t) left h n = h
by_turn P gs out next None (Some es) h n = n (out then es)
by_turn P gs out next None None h n = tt

by_step : (P : List Goal → Type 0) (w : Symbol) → ((g : Goal) (gs : List Goal) → IsInside (g ∷ gs) → TurnHas P gs (takes g w)) → (goals : List Goal) (out : List Outline) → IsInside goals
    → StepHas P (step goals out w)
by_step P w each [] out h = tt
by_step P w each (g ∷ goals) out h =
    by_turn P goals out (λ o. step goals o w) (takes g w) (leaves g) (each g goals h) (λ o. by_step P w each goals o (behind g goals h))

-- ---- inside a document the goals stay inside

property_inside : (w : Where) (ps : Option Properties) (gs : List Goal) → IsInside gs → TurnHas IsInside gs (property_turn w ps)
property_inside w None gs h = tt
property_inside w (Some ps) gs h = h

node_inside : (w : Where) (ps : Option Properties) (x : Symbol) (gs : List Goal) → IsInside gs → TurnHas IsInside gs (node_turn w ps x)
node_inside w None (One Kind.Alias s) gs h = h
node_inside w (Some ps) (One Kind.Alias s) gs h = tt
node_inside w ps (One Kind.Anchor s) gs h = property_inside w (with_anchor ps s) gs h
node_inside w ps (One Kind.Tag s) gs h = property_inside w (with_tag ps s) gs h
node_inside w ps (One (Kind.Scalar style) s) gs h = h
node_inside w ps (One Kind.SeqOpen s) gs h = h
node_inside w ps (One Kind.MapOpen s) gs h = h
node_inside InInline ps (OpenSequence at) gs h = tt
node_inside (InBlock v) ps (OpenSequence at) gs h = h
node_inside InInline ps (OpenMapping at) gs h = tt
node_inside (InBlock v) ps (OpenMapping at) gs h = h
node_inside InInline ps (One Kind.Entry s) gs h = tt
node_inside (InBlock false) ps (One Kind.Entry s) gs h = tt
node_inside (InBlock true) ps (One Kind.Entry s) gs h = h
node_inside w ps x gs h = tt

closing_inside : (b : BracketKind) (kind : Kind) (gs : List Goal) → IsInside gs → TurnHas IsInside gs (closing_turn b kind)
closing_inside Square Kind.SeqClose gs h = h
closing_inside Curly Kind.MapClose gs h = h
closing_inside b kind gs h = tt

before_inside : (new gs : List Goal) (r : Option Turn) → TurnHas IsInside (new ++ gs) r → TurnHas IsInside gs (turn_before new r)
before_inside new gs None h = tt
before_inside new gs (Some t) h = subst IsInside (sym (append_assoc t.goals new gs)) h

items_inside : (b : BracketKind) (x : Symbol) (gs : List Goal) → IsInside gs → TurnHas IsInside gs (items_take b x)
items_inside b (BeginKey at) gs h = h
items_inside b (One Kind.Key s) gs h = h
items_inside b (One Kind.Value s) gs h = h
items_inside b (One Kind.SeqClose s) gs h = closing_inside b Kind.SeqClose gs h
items_inside b (One Kind.MapClose s) gs h = closing_inside b Kind.MapClose gs h
items_inside b x gs h = before_inside (NodeEnd b ∷ ItemEnd b ∷ []) gs (node_turn InInline None x) (node_inside InInline None x (NodeEnd b ∷ ItemEnd b ∷ gs) h)

takes_inside : (x : Symbol) (g : Goal) (gs : List Goal) → IsInside (g ∷ gs) → TurnHas IsInside gs (takes g x)
takes_inside x Prefix gs h = absurd h
takes_inside x Directives gs h = absurd h
takes_inside (One Kind.DocEnd s) Ending gs h = subst IsInside (sym h) tt
takes_inside x (Formed w ps) gs h = node_inside w ps x gs h
takes_inside (One Kind.Entry s) Entries gs h = h
takes_inside Close Entries gs h = h
takes_inside (One Kind.Entry s) Indentless gs h = h
takes_inside (BeginKey at) Pairs gs h = h
takes_inside (One Kind.Key s) Pairs gs h = h
takes_inside (One Kind.Value s) Pairs gs h = h
takes_inside Close Pairs gs h = h
takes_inside (One Kind.Value s) (ValueOf w) gs h = h
takes_inside (One Kind.Value s) Colon gs h = h
takes_inside x (Items b) gs h = items_inside b x gs h
takes_inside (One Kind.Comma s) (ItemEnd b) gs h = h
takes_inside (One kind s) (ItemEnd b) gs h = closing_inside b kind gs h
takes_inside x g gs h = tt

-- ---- there `...` leaves no goal, and no goal takes `---`

ends : (i : ℕ) (g : Goal) (gs : List Goal) → IsInside (g ∷ gs) → TurnHas (λ hs. hs ≡ []) gs (takes g (One Kind.DocEnd i))
ends i Prefix gs h = absurd h
ends i Directives gs h = absurd h
ends i Ending gs h = h
ends i (ItemEnd Square) gs h = tt
ends i (ItemEnd Curly) gs h = tt
ends i (Formed InInline ps) gs h = tt
ends i (Formed (InBlock b) ps) gs h = tt
ends i g gs h = tt

refuses : (i : ℕ) (g : Goal) (gs : List Goal) → IsInside (g ∷ gs) → TurnHas (λ hs. ⊥) gs (takes g (One Kind.DocStart i))
refuses i Prefix gs h = absurd h
refuses i Directives gs h = absurd h
refuses i (ItemEnd Square) gs h = tt
refuses i (ItemEnd Curly) gs h = tt
refuses i (Formed InInline ps) gs h = tt
refuses i (Formed (InBlock b) ps) gs h = tt
refuses i g gs h = tt

-- ---- where all symbols are taken

abbrev IsTaken : Option ParserState → Type 0
IsTaken None = ⊥
IsTaken (Some s) = Unit {0}

-- the first one is, and those after it are
go_on : {R : Type 0} (P : List Goal → Type 0) (r : Option ParserState) (next : ParserState → Option ParserState) → StepHas P r → IsTaken (steps_onto next r)
    → ((s : ParserState) → P s.goals → IsTaken (next s) → R) → R
go_on P None next h t f = absurd t
go_on P (Some s) next h t f = f s h t

abbrev after : List Symbol → ParserState → Option ParserState
after ws s = steps ws s.goals s.events

-- where no goal is left, there are none
none_after : (ws : List Symbol) (last : Option Kind) (goals : List Goal) (out : List Outline) → goals ≡ [] → IsTaken (steps ws goals out) → NoneBegins last (kinds_among ws)
none_after [] last goals out e t = tt
none_after (w ∷ ws) last goals out e t = absurd (let Taken : List Goal → Type 0 = λ gs. IsTaken (steps (w ∷ ws) gs out) in subst Taken e t)

-- the latest lexeme is no `...`
abbrev GoesOn : Option Kind → Type 0
GoesOn last = option_map_or is_document_end last false ≡ false

not_here : (last : Option Kind) (k : Kind) → GoesOn last → is_document_start k ≡ false → option_map_or (λ l. is_beginning l k) last false ≡ false
not_here None k h e = refl
not_here (Some l) k h e = rw (h, e) refl

none_inside : (ws : List Symbol) (last : Option Kind) (goals : List Goal) (out : List Outline) → GoesOn last → IsInside goals → IsTaken (steps ws goals out) → NoneBegins last (kinds_among ws)
none_inside [] last goals out g h t = tt
none_inside (One Kind.DocStart i ∷ ws) last goals out g h t =
    go_on (λ hs. ⊥) (step goals out (One Kind.DocStart i)) (after ws) (by_step (λ hs. ⊥) (One Kind.DocStart i) (refuses i) goals out h) t (λ s f u. absurd f)
none_inside (One Kind.DocEnd i ∷ ws) last goals out g h t = (
  not_here last Kind.DocEnd g refl,
  go_on (λ hs. hs ≡ []) (step goals out (One Kind.DocEnd i)) (after ws) (by_step (λ hs. hs ≡ []) (One Kind.DocEnd i) (ends i) goals out h) t
      (λ s e u. none_after ws (Some Kind.DocEnd) s.goals s.events e u),
)
none_inside (One k i ∷ ws) last goals out g h t = (
  not_here last k g refl,
  go_on IsInside (step goals out (One k i)) (after ws) (by_step IsInside (One k i) (takes_inside (One k i)) goals out h) t (λ s e u. none_inside ws (Some k) s.goals s.events refl e u),
)
none_inside (w ∷ ws) last goals out g h t =
    go_on IsInside (step goals out w) (after ws) (by_step IsInside w (takes_inside w) goals out h) t (λ s e u. none_inside ws last s.goals s.events g e u)

-- ---- from the document's start on

abbrev goals_inside : List Goal
goals_inside = Formed (InBlock false) None ∷ Ending ∷ []

none_in_directives : (ws : List Symbol) (out : List Outline) → IsTaken (steps ws (Directives ∷ goals_inside) out) → NoneBegins (Some Kind.Directive) (kinds_among ws)
none_in_directives [] out t = tt
none_in_directives (One Kind.Directive i ∷ ws) out t = (refl, none_in_directives ws out t)
none_in_directives (One Kind.DocStart i ∷ ws) out t = (refl, none_inside ws (Some Kind.DocStart) goals_inside out refl refl t)
none_in_directives (w ∷ ws) out t = absurd t

none_from_start : (ws : List Symbol) (out : List Outline) → IsTaken (steps ws goals_of_document out) → NoneBegins None (kinds_among ws)
none_from_start [] out t = tt
none_from_start (One Kind.Directive i ∷ ws) out t = (refl, none_in_directives ws out t)
none_from_start (One Kind.DocStart i ∷ ws) out t = (refl, none_inside ws (Some Kind.DocStart) goals_inside out refl refl t)
none_from_start (w ∷ ws) out t = none_inside (w ∷ ws) None goals_inside out refl refl t

pub none_begins : (ws : List Symbol) (out : List Outline) (t : ParserState) → steps ws goals_of_document out ≡ Some t → NoneBegins None (kinds_among ws)
none_begins ws out t e = none_from_start ws out (subst IsTaken (sym e) tt)
