-- The events of a document before and after a value is typed anew are alike: what stands behind an entry's or a value's indicator is no key.
use Rattle.std.specs.Prelude.{ℕ, ◌≡◌, ◌<◌, refl, Bool, true, false, not, ◌&&◌, if◌then◌else◌, List, [], ◌∷◌, ◌++◌, map, Option, Some, None, option_map}
use Rattle.std.proofs.Common.{sym, ◌∙◌, ap, subst, append_assoc, arith, ⊎_elim}
use Rattle.std.proofs.lemmas.Bool.{cases_order}
use Rattle.yl_lexeme.specs.declared.lexeme.Kind.{Kind}
use Rattle.yl_lexeme.specs.declared.lexeme.Style.{Style}
use Rattle.yl_lexeme.specs.Lexeme.{LexemeValue}
use Rattle.yl_marks.specs.declared.symbol.Symbol.{Symbol}
use Rattle.yl_marks.specs.declared.symbol.Symbol.TheVariants.{OpenSequence, OpenMapping, BeginKey, Close, One}
use Rattle.yl_events.specs.declared.symbol.BracketKind.{BracketKind}
use Rattle.yl_events.specs.declared.symbol.BracketKind.TheVariants.{Square, Curly}
use Rattle.yl_events.specs.declared.symbol.Properties.{Properties}
use Rattle.yl_events.specs.declared.symbol.Properties.TheVariants.{Anchored, Tagged, AnchoredTagged, TaggedAnchored}
use Rattle.yl_events.specs.declared.symbol.Outline.{Outline}
use Rattle.yl_events.specs.declared.symbol.Shape.{Shape}
use Rattle.yl_events.specs.declared.symbol.Shape.TheVariants as shape
use Rattle.yl_events.specs.declared.symbol.Where.{Where}
use Rattle.yl_events.specs.declared.symbol.Where.TheVariants.{InInline, InBlock}
use Rattle.yl_events.specs.declared.symbol.Goal.{Goal}
use Rattle.yl_events.specs.declared.symbol.Goal.TheVariants.{Prefix, Directives, Ending, Formed, Entries, Indentless, Pairs, ValueOf, Colon, Items, ItemEnd, PairEnd, NodeEnd}
use Rattle.yl_events.specs.Outlines.{bare_event, node_event, end_event, ◌then◌}
use Rattle.yl_events.specs.Event.{EventValue, value_of, start_of, value_at, start_at, kind_of, anchor_of, event_of_outline}
use Rattle.yl_events.specs.Machine as m
use Rattle.yl_events.specs.Machine.{Turn, ParserState, node_turn, takes, leaves, step, finish, run, parse}
use Rattle.yl_events.proofs.Answered.{complete}
use Rattle.yl_tree.specs.OpenNodes.{OpenCollection, OpenNodes, first_or_new, without_first, with_event, collections_behind}
use Rattle.yl_retyped.specs.Retyped.{asks_for_value}
use Rattle.yl_retyped.proofs.Symbols.{NoneAt, DifferAt}
use Rattle.yl_retyped.proofs.Statements.{EventsLaw}
use Rattle.yl_retyped.proofs.Retold.{AlikeEvent, AllAlike, alike_same, alike_scalar, and_false, same_findings}

-- ---- what is open behind the events told, without the keys

pub record Seat : Type 0 where
  pub is_mapping : Bool
  pub is_key_next : Bool

pub record Standing : Type 0 where
  pub top : Seat
  pub below : List Seat

abbrev pub seat_of : OpenCollection → Seat
seat_of o = record { is_mapping = o.is_mapping; is_key_next = o.is_key_next }

abbrev pub standing_of : OpenNodes → Standing
standing_of s = record { top = seat_of s.innermost; below = map seat_of s.outer }

abbrev pub first_seat : List Seat → Seat
first_seat [] = record { is_mapping = false; is_key_next = true }
first_seat (seat ∷ seats) = seat

abbrev pub other_seats : List Seat → List Seat
other_seats [] = []
other_seats (seat ∷ seats) = seats

-- with a node more in the innermost; with a collection more; with the innermost closed
abbrev pub flip : Standing → Standing
flip t = record { top = record { is_mapping = t.top.is_mapping; is_key_next = not t.top.is_key_next }; below = t.below }

abbrev pub enter : Bool → Standing → Standing
enter mapping t = record { top = record { is_mapping = mapping; is_key_next = true }; below = (flip t).top ∷ t.below }

abbrev pub leave : Standing → Standing
leave t = record { top = first_seat t.below; below = other_seats t.below }

abbrev pub after : Shape → Standing → Standing
after shape.SequenceStart t = enter false t
after shape.MappingStart t = enter true t
after shape.SequenceEnd t = leave t
after shape.MappingEnd t = leave t
after _ t = flip t

abbrev pub after_all : List Outline → Standing → Standing
after_all [] t = t
after_all (o ∷ os) t = after_all os (after o.kind t)

abbrev pub IsNoKey : Standing → Type 0
IsNoKey t = (t.top.is_mapping && t.top.is_key_next) ≡ false

left_standing : (os : List OpenCollection) → standing_of (record { innermost = first_or_new os; outer = without_first os }) ≡ (record { top = first_seat (map seat_of os); below = other_seats (map seat_of os) })
left_standing [] = refl
left_standing (o ∷ os) = refl

standing_after : (xs : List LexemeValue) (o : Outline) (k : Shape) → o.kind ≡ k → (s : OpenNodes) → standing_of (with_event (event_of_outline xs o) s) ≡ after k (standing_of s)
standing_after xs o shape.DocumentStart e s = rw e refl
standing_after xs o shape.DocumentEnd e s = rw e refl
standing_after xs o shape.SequenceStart e s = rw e refl
standing_after xs o shape.SequenceEnd e s = rw e (left_standing s.outer)
standing_after xs o shape.MappingStart e s = rw e refl
standing_after xs o shape.MappingEnd e s = rw e (left_standing s.outer)
standing_after xs o shape.Alias e s = rw e refl
standing_after xs o (shape.Scalar style) e s = rw e refl
standing_after xs o shape.Empty e s = rw e refl

-- ---- what speaks of no lexeme of this index but by its place

abbrev pub IsApart : ℕ → Option ℕ → Type 0
IsApart n None = Unit {0}
IsApart n (Some i) = i ≡ n → ⊥

abbrev pub HasContentApart : ℕ → Shape → Option ℕ → Type 0
HasContentApart n shape.Alias place = IsApart n place
HasContentApart n (shape.Scalar style) place = IsApart n place
HasContentApart n _ place = Unit {0}

abbrev pub IsOutlineApart : ℕ → Outline → Type 0
IsOutlineApart n o = HasContentApart n o.kind o.place × IsApart n o.anchor

abbrev pub AreApart : ℕ → List Outline → Type 0
AreApart n [] = Unit {0}
AreApart n (o ∷ os) = IsOutlineApart n o × AreApart n os

abbrev pub HasAnchorApart : ℕ → Option Properties → Type 0
HasAnchorApart n (Some (Anchored a)) = a ≡ n → ⊥
HasAnchorApart n (Some (AnchoredTagged a t)) = a ≡ n → ⊥
HasAnchorApart n (Some (TaggedAnchored t a)) = a ≡ n → ⊥
HasAnchorApart n _ = Unit {0}

abbrev pub IsSymbolApart : ℕ → Symbol → Type 0
IsSymbolApart n (One kind i) = i ≡ n → ⊥
IsSymbolApart n _ = Unit {0}

first_apart : (n : ℕ) (x : Symbol) (ws : List Symbol) → NoneAt n (x ∷ ws) → IsSymbolApart n x × NoneAt n ws
first_apart n (One kind i) ws none = (none.0, none.1)
first_apart n (OpenSequence i) ws none = (tt, none)
first_apart n (OpenMapping i) ws none = (tt, none)
first_apart n (BeginKey i) ws none = (tt, none)
first_apart n Close ws none = (tt, none)

-- ---- their events are the same, or the typed one's is that of a scalar that is no key

same_value : (n : ℕ) (xs ys : List LexemeValue) → DifferAt n xs ys → (i : ℕ) → (i ≡ n → ⊥) → value_at xs i ≡ value_at ys i
same_value n xs ys d i other = ap value_of (d.others i other)

same_start : (n : ℕ) (xs ys : List LexemeValue) → DifferAt n xs ys → (i : ℕ) → start_at xs i ≡ start_at ys i
same_start n xs ys d i = ⊎_elim
    (λ (e : i ≡ n). ap (start_at xs) e ∙ d.start ∙ sym (ap (start_at ys) e))
    (λ h. ⊎_elim (λ (g : i < n). ap start_of (d.others i (λ e. omega arith))) (λ (g : n < i). ap start_of (d.others i (λ e. omega arith))) h)
    (cases_order i n)

same_place : (n : ℕ) (xs ys : List LexemeValue) → DifferAt n xs ys → (p : Option ℕ) → option_map (start_at xs) p ≡ option_map (start_at ys) p
same_place n xs ys d None = refl
same_place n xs ys d (Some i) = ap Some (same_start n xs ys d i)

same_anchor : (n : ℕ) (xs ys : List LexemeValue) → DifferAt n xs ys → (p : Option ℕ) → IsApart n p → anchor_of xs p ≡ anchor_of ys p
same_anchor n xs ys d None other = refl
same_anchor n xs ys d (Some i) other = rw (same_value n xs ys d i other, same_start n xs ys d i) refl

same_content : (n : ℕ) (xs ys : List LexemeValue) → DifferAt n xs ys → (k : Shape) (p : Option ℕ) → HasContentApart n k p → kind_of xs k p ≡ kind_of ys k p
same_content n xs ys d shape.Alias None other = refl
same_content n xs ys d shape.Alias (Some i) other = rw (same_value n xs ys d i other) refl
same_content n xs ys d (shape.Scalar style) None other = refl
same_content n xs ys d (shape.Scalar style) (Some i) other = rw (same_value n xs ys d i other) refl
same_content n xs ys d k p other = refl

same_event : (n : ℕ) (xs ys : List LexemeValue) → DifferAt n xs ys → (o : Outline) → IsOutlineApart n o → event_of_outline xs o ≡ event_of_outline ys o
same_event n xs ys d o apart = rw (same_content n xs ys d o.kind o.place apart.0, same_place n xs ys d o.place, same_anchor n xs ys d o.anchor apart.1) refl

typed_event : (n : ℕ) (xs ys : List LexemeValue) → DifferAt n xs ys → (style : Style) (s : OpenNodes) → IsNoKey (standing_of s)
    → AlikeEvent s (event_of_outline xs (bare_event (shape.Scalar style) (Some n))) (event_of_outline ys (bare_event (shape.Scalar style) (Some n)))
typed_event n xs ys d style s off =
    rw (same_start n xs ys d n) (alike_scalar s style (Some (start_at ys n)) None false (value_at xs n) (value_at ys n) off)

-- ---- the events told so far are alike, and behind them it stands so

abbrev pub start : OpenNodes
start = collections_behind []

abbrev behind : OpenNodes → List EventValue → OpenNodes
behind s [] = s
behind s (e ∷ es) = behind (with_event e s) es

all_more : (s : OpenNodes) (xs ys : List LexemeValue) (out : List Outline) (o : Outline) → AllAlike s (map (event_of_outline xs) out) (map (event_of_outline ys) out)
    → AlikeEvent (behind s (map (event_of_outline xs) out)) (event_of_outline xs o) (event_of_outline ys o)
    → AllAlike s (map (event_of_outline xs) (out ++ o ∷ [])) (map (event_of_outline ys) (out ++ o ∷ []))
all_more s xs ys [] o all one = (one, tt)
all_more s xs ys (u ∷ out) o all one = (all.0, all_more (with_event (event_of_outline xs u) s) xs ys out o all.1 one)

behind_more : (s : OpenNodes) (xs : List LexemeValue) (out : List Outline) (o : Outline)
    → behind s (map (event_of_outline xs) (out ++ o ∷ [])) ≡ with_event (event_of_outline xs o) (behind s (map (event_of_outline xs) out))
behind_more s xs [] o = refl
behind_more s xs (u ∷ out) o = behind_more (with_event (event_of_outline xs u) s) xs out o

-- behind these outlines
pub record Told (xs ys : List LexemeValue) (out : List Outline) (t : Standing) : Type 0 where
  pub alike : AllAlike start (map (event_of_outline xs) out) (map (event_of_outline ys) out)
  pub stands : standing_of (behind start (map (event_of_outline xs) out)) ≡ t

told_more : (xs ys : List LexemeValue) (out : List Outline) (t : Standing) (o : Outline) → Told xs ys out t
    → ((s : OpenNodes) → standing_of s ≡ t → AlikeEvent s (event_of_outline xs o) (event_of_outline ys o)) → Told xs ys (out ++ o ∷ []) (after o.kind t)
told_more xs ys out t o told one = record {
  alike = all_more start xs ys out o told.alike (one (behind start (map (event_of_outline xs) out)) told.stands);
  stands = ap standing_of (behind_more start xs out o) ∙ standing_after xs o o.kind refl (behind start (map (event_of_outline xs) out)) ∙ ap (after o.kind) told.stands;
}

told_apart : (n : ℕ) (xs ys : List LexemeValue) → DifferAt n xs ys → (es out : List Outline) (t : Standing) → Told xs ys out t → AreApart n es → Told xs ys (out then es) (after_all es t)
told_apart n xs ys d [] out t told apart = told
told_apart n xs ys d (e ∷ es) out t told apart = told_apart n xs ys d es (out ++ e ∷ []) (after e.kind t)
    (told_more xs ys out t e told (λ s is. alike_same s _ _ (same_event n xs ys d e apart.0))) apart.1

-- ---- what stands open where these goals are still to be filled: each goal tells one node, or ends what is open

-- a node comes first
abbrev pub HasNode : List Goal → Type 0
HasNode (Formed w None ∷ gs) = Unit {0}
HasNode gs = ⊥

abbrev pub Fits : ℕ → List Goal → Standing → Type 0
Fits n [] t = Unit {0}
Fits n (Prefix ∷ gs) t = Fits n gs t
Fits n (Directives ∷ gs) t = Fits n gs t
Fits n (Ending ∷ gs) t = Fits n gs t
Fits n (Formed w ps ∷ gs) t = HasAnchorApart n ps × Fits n gs (flip t)
Fits n (Entries ∷ gs) t = (t.top.is_mapping ≡ false) × Fits n gs (leave t)
Fits n (Indentless ∷ gs) t = (t.top.is_mapping ≡ false) × Fits n gs (leave t)
Fits n (Pairs ∷ gs) t = (t.top.is_key_next ≡ true) × Fits n gs (leave t)
Fits n (ValueOf w ∷ gs) t = IsNoKey t × Fits n gs (flip t)
Fits n (Colon ∷ gs) t = IsNoKey t × HasNode gs × Fits n gs t
Fits n (Items Square ∷ gs) t = Fits n gs (leave t)
Fits n (Items Curly ∷ gs) t = (t.top.is_key_next ≡ true) × Fits n gs (leave t)
Fits n (ItemEnd Square ∷ gs) t = Fits n gs (leave t)
Fits n (ItemEnd Curly ∷ gs) t = (t.top.is_key_next ≡ true) × Fits n gs (leave t)
Fits n (PairEnd Square ∷ gs) t = Fits n gs (leave t)
Fits n (PairEnd Curly ∷ gs) t = Fits n gs t
Fits n (NodeEnd Square ∷ gs) t = Fits n gs t
Fits n (NodeEnd Curly ∷ gs) t = Fits n gs (flip t)

not_not : (b : Bool) → not (not b) ≡ b
not_not true = refl
not_not false = refl

-- behind a key comes its value, and in a sequence no key
value_next : (t : Standing) → t.top.is_key_next ≡ true → IsNoKey (flip t)
value_next t next = rw next (and_false t.top.is_mapping)

no_key_among : (t : Standing) → t.top.is_mapping ≡ false → IsNoKey t
no_key_among t off = rw off refl

key_again : (t : Standing) → t.top.is_key_next ≡ true → not (not t.top.is_key_next) ≡ true
key_again t next = not_not t.top.is_key_next ∙ next

-- ---- a turn, and a goal that is left

-- what is asked of the goals behind it
abbrev pub Wish : Type 1
Wish = List Goal → Standing → Type 0

abbrev pub TurnFits : ℕ → Wish → List Goal → Standing → Option Turn → Type 0
TurnFits n wish gs t None = Unit {0}
TurnFits n wish gs t (Some turn) = Fits n (turn.goals ++ gs) (after_all turn.events t) × AreApart n turn.events × wish (turn.goals ++ gs) (after_all turn.events t)

abbrev pub LeavingFits : ℕ → List Goal → Standing → Option (List Outline) → Type 0
LeavingFits n gs t None = Unit {0}
LeavingFits n gs t (Some es) = Fits n gs (after_all es t) × AreApart n es

node_kind : (ps : Option Properties) (k : Shape) (p : Option ℕ) → (node_event ps k p).kind ≡ k
node_kind None k p = refl
node_kind (Some (Anchored a)) k p = refl
node_kind (Some (Tagged t)) k p = refl
node_kind (Some (AnchoredTagged a t)) k p = refl
node_kind (Some (TaggedAnchored t a)) k p = refl

node_apart : (n : ℕ) (ps : Option Properties) (k : Shape) (p : Option ℕ) → HasContentApart n k p → HasAnchorApart n ps → IsOutlineApart n (node_event ps k p)
node_apart n None k p content anchor = (content, tt)
node_apart n (Some (Anchored a)) k p content anchor = (content, anchor)
node_apart n (Some (Tagged t)) k p content anchor = (content, tt)
node_apart n (Some (AnchoredTagged a t)) k p content anchor = (content, anchor)
node_apart n (Some (TaggedAnchored t a)) k p content anchor = (content, anchor)

leaving_node : (n : ℕ) (ps : Option Properties) (gs : List Goal) (t : Standing) → HasAnchorApart n ps → Fits n gs (flip t) → LeavingFits n gs t (Some (node_event ps shape.Empty None ∷ []))
leaving_node n ps gs t anchor fits =
    (subst (λ (k : Shape). Fits n gs (after k t)) (sym (node_kind ps shape.Empty None)) fits, (node_apart n ps shape.Empty None tt anchor, tt))

leaving_fits : (n : ℕ) (g : Goal) (gs : List Goal) (t : Standing) → Fits n (g ∷ gs) t → LeavingFits n gs t (leaves g)
leaving_fits n Prefix gs t fits = (fits, tt)
leaving_fits n Ending gs t fits = (fits, tt)
leaving_fits n (Formed InInline None) gs t fits = tt
leaving_fits n (Formed InInline (Some ps)) gs t fits = leaving_node n (Some ps) gs t fits.0 fits.1
leaving_fits n (Formed (InBlock v) ps) gs t fits = leaving_node n ps gs t fits.0 fits.1
leaving_fits n Indentless gs t fits = (fits.1, ((tt, tt), tt))
leaving_fits n (ValueOf w) gs t fits = (fits.1, ((tt, tt), tt))
leaving_fits n (PairEnd Square) gs t fits = (fits, ((tt, tt), tt))
leaving_fits n (PairEnd Curly) gs t fits = (fits, tt)
leaving_fits n (NodeEnd Square) gs t fits = (fits, tt)
leaving_fits n (NodeEnd Curly) gs t fits = (fits, ((tt, tt), tt))
leaving_fits n g gs t fits = tt

-- ---- each goal's turn

-- one node event, and goals that fit behind it
turn_of_node : (n : ℕ) (wish : Wish) (ps : Option Properties) (k : Shape) (p : Option ℕ) (goals gs : List Goal) (t : Standing) → HasAnchorApart n ps → HasContentApart n k p
    → Fits n (goals ++ gs) (after k t) → wish (goals ++ gs) (after k t) → TurnFits n wish gs t (m.turn goals (node_event ps k p ∷ []))
turn_of_node n wish ps k p goals gs t anchor content fits wished = (
  subst (λ (j : Shape). Fits n (goals ++ gs) (after j t)) (sym (node_kind ps k p)) fits,
  (node_apart n ps k p content anchor, tt),
  subst (λ (j : Shape). wish (goals ++ gs) (after j t)) (sym (node_kind ps k p)) wished,
)

abbrev AnyWish : Wish
AnyWish gs t = Unit {0}

alias_fits : (n : ℕ) (ps : Option Properties) (s : ℕ) (gs : List Goal) (t : Standing) → (s ≡ n → ⊥) → Fits n gs (flip t) → TurnFits n AnyWish gs t (m.alias_at ps s)
alias_fits n None s gs t apart fits = (fits, ((apart, tt), tt), tt)
alias_fits n (Some ps) s gs t apart fits = tt

anchor_fits : (n : ℕ) (w : Where) (ps : Option Properties) (s : ℕ) (gs : List Goal) (t : Standing) → (s ≡ n → ⊥) → Fits n gs (flip t) → TurnFits n AnyWish gs t (m.property_turn w (m.with_anchor ps s))
anchor_fits n w None s gs t apart fits = ((apart, fits), tt, tt)
anchor_fits n w (Some (Tagged a)) s gs t apart fits = ((apart, fits), tt, tt)
anchor_fits n w (Some ps) s gs t apart fits = tt

tag_fits : (n : ℕ) (w : Where) (ps : Option Properties) (s : ℕ) (gs : List Goal) (t : Standing) → HasAnchorApart n ps → Fits n gs (flip t) → TurnFits n AnyWish gs t (m.property_turn w (m.with_tag ps s))
tag_fits n w None s gs t apart fits = ((tt, fits), tt, tt)
tag_fits n w (Some (Anchored a)) s gs t apart fits = ((apart, fits), tt, tt)
tag_fits n w (Some ps) s gs t apart fits = tt

node_fits : (n : ℕ) (w : Where) (ps : Option Properties) (x : Symbol) (gs : List Goal) (t : Standing) → IsSymbolApart n x → HasAnchorApart n ps → Fits n gs (flip t) → TurnFits n AnyWish gs t (node_turn w ps x)
node_fits n w ps (One Kind.Alias s) gs t apart anchor fits = alias_fits n ps s gs t apart fits
node_fits n w ps (One Kind.Anchor s) gs t apart anchor fits = anchor_fits n w ps s gs t apart fits
node_fits n w ps (One Kind.Tag s) gs t apart anchor fits = tag_fits n w ps s gs t anchor fits
node_fits n w ps (One (Kind.Scalar style) s) gs t apart anchor fits = turn_of_node n AnyWish ps (shape.Scalar style) (Some s) [] gs t anchor apart fits tt
node_fits n w ps (One Kind.SeqOpen s) gs t apart anchor fits = turn_of_node n AnyWish ps shape.SequenceStart (Some s) (Items Square ∷ []) gs t anchor tt fits tt
node_fits n w ps (One Kind.MapOpen s) gs t apart anchor fits = turn_of_node n AnyWish ps shape.MappingStart (Some s) (Items Curly ∷ []) gs t anchor tt (refl, fits) tt
node_fits n (InBlock v) ps (OpenSequence at) gs t apart anchor fits = turn_of_node n AnyWish ps shape.SequenceStart (Some at) (Entries ∷ []) gs t anchor tt (refl, fits) tt
node_fits n (InBlock v) ps (OpenMapping at) gs t apart anchor fits = turn_of_node n AnyWish ps shape.MappingStart (Some at) (Pairs ∷ []) gs t anchor tt (refl, fits) tt
node_fits n (InBlock true) ps (One Kind.Entry s) gs t apart anchor fits =
    turn_of_node n AnyWish ps shape.SequenceStart (Some s) (Formed (InBlock false) None ∷ Indentless ∷ []) gs t anchor tt (tt, (refl, fits)) tt
node_fits n w ps x gs t apart anchor fits = tt

closing_fits : (n : ℕ) (b : BracketKind) (kind : Kind) (gs : List Goal) (t : Standing) → Fits n gs (leave t) → TurnFits n AnyWish gs t (m.closing_turn b kind)
closing_fits n Square Kind.SeqClose gs t fits = (fits, ((tt, tt), tt), tt)
closing_fits n Curly Kind.MapClose gs t fits = (fits, ((tt, tt), tt), tt)
closing_fits n b kind gs t fits = tt

-- behind an open bracket's goal, and behind that of its end
left_in : (n : ℕ) (b : BracketKind) (gs : List Goal) (t : Standing) → Fits n (Items b ∷ gs) t → Fits n gs (leave t)
left_in n Square gs t fits = fits
left_in n Curly gs t fits = fits.1

left_at_end : (n : ℕ) (b : BracketKind) (gs : List Goal) (t : Standing) → Fits n (ItemEnd b ∷ gs) t → Fits n gs (leave t)
left_at_end n Square gs t fits = fits
left_at_end n Curly gs t fits = fits.1

items_again : (n : ℕ) (b : BracketKind) (gs : List Goal) (t : Standing) → Fits n (ItemEnd b ∷ gs) t → Fits n (Items b ∷ gs) t
items_again n Square gs t fits = fits
items_again n Curly gs t fits = fits

before_fits : (n : ℕ) (goals gs : List Goal) (t : Standing) (r : Option Turn) → TurnFits n AnyWish (goals ++ gs) t r → TurnFits n AnyWish gs t (m.turn_before goals r)
before_fits n goals gs t None fits = tt
before_fits n goals gs t (Some turn) fits = (subst (λ (l : List Goal). Fits n l (after_all turn.events t)) (sym (append_assoc turn.goals goals gs)) fits.0, fits.1, tt)

item_node : (n : ℕ) (b : BracketKind) (gs : List Goal) (t : Standing) → Fits n (Items b ∷ gs) t → Fits n (NodeEnd b ∷ ItemEnd b ∷ gs) (flip t)
item_node n Square gs t fits = fits
item_node n Curly gs t fits = (key_again t fits.0, fits.1)

item_of_node : (n : ℕ) (b : BracketKind) (x : Symbol) (gs : List Goal) (t : Standing) → IsSymbolApart n x → Fits n (Items b ∷ gs) t
    → TurnFits n AnyWish gs t (m.turn_before (NodeEnd b ∷ ItemEnd b ∷ []) (node_turn InInline None x))
item_of_node n b x gs t apart fits = before_fits n (NodeEnd b ∷ ItemEnd b ∷ []) gs t (node_turn InInline None x) (node_fits n InInline None x (NodeEnd b ∷ ItemEnd b ∷ gs) t apart tt (item_node n b gs t fits))

pair_fits : (n : ℕ) (b : BracketKind) (at : ℕ) (gs : List Goal) (t : Standing) → Fits n (Items b ∷ gs) t → TurnFits n AnyWish gs t (m.items_take b (BeginKey at))
pair_fits n Square at gs t fits = ((tt, (refl, tt, (tt, fits))), ((tt, tt), tt), tt)
pair_fits n Curly at gs t fits = ((tt, (value_next t fits.0, tt, (tt, (key_again t fits.0, fits.1)))), tt, tt)

key_fits : (n : ℕ) (b : BracketKind) (s : ℕ) (gs : List Goal) (t : Standing) → Fits n (Items b ∷ gs) t → TurnFits n AnyWish gs t (m.items_take b (One Kind.Key s))
key_fits n Square s gs t fits = ((tt, (refl, fits)), ((tt, tt), tt), tt)
key_fits n Curly s gs t fits = ((tt, (value_next t fits.0, (key_again t fits.0, fits.1))), tt, tt)

-- the goals begin with a node that is no key
abbrev pub IsReady : Wish
IsReady gs t = HasNode gs × IsNoKey t

value_fits : (n : ℕ) (b : BracketKind) (s : ℕ) (gs : List Goal) (t : Standing) → Fits n (Items b ∷ gs) t → TurnFits n IsReady gs t (m.items_take b (One Kind.Value s))
value_fits n Square s gs t fits = ((tt, fits), ((tt, tt), ((tt, tt), tt)), (tt, refl))
value_fits n Curly s gs t fits = ((tt, (key_again t fits.0, fits.1)), ((tt, tt), tt), (tt, value_next t fits.0))

any_wish : (n : ℕ) (wish : Wish) (gs : List Goal) (t : Standing) (r : Option Turn) → TurnFits n wish gs t r → TurnFits n AnyWish gs t r
any_wish n wish gs t None fits = tt
any_wish n wish gs t (Some turn) fits = (fits.0, fits.1, tt)

items_fit : (n : ℕ) (b : BracketKind) (x : Symbol) (gs : List Goal) (t : Standing) → IsSymbolApart n x → Fits n (Items b ∷ gs) t → TurnFits n AnyWish gs t (m.items_take b x)
items_fit n b (BeginKey at) gs t apart fits = pair_fits n b at gs t fits
items_fit n b (One Kind.Key s) gs t apart fits = key_fits n b s gs t fits
items_fit n b (One Kind.Value s) gs t apart fits = any_wish n IsReady gs t (m.items_take b (One Kind.Value s)) (value_fits n b s gs t fits)
items_fit n b (One Kind.SeqClose s) gs t apart fits = closing_fits n b Kind.SeqClose gs t (left_in n b gs t fits)
items_fit n b (One Kind.MapClose s) gs t apart fits = closing_fits n b Kind.MapClose gs t (left_in n b gs t fits)
items_fit n b x gs t apart fits = item_of_node n b x gs t apart fits

item_end_fits : (n : ℕ) (b : BracketKind) (x : Symbol) (gs : List Goal) (t : Standing) → Fits n (ItemEnd b ∷ gs) t → TurnFits n AnyWish gs t (takes (ItemEnd b) x)
item_end_fits n b (One Kind.Comma s) gs t fits = (items_again n b gs t fits, tt, tt)
item_end_fits n b (One kind s) gs t fits = closing_fits n b kind gs t (left_at_end n b gs t fits)
item_end_fits n b x gs t fits = tt

pairs_fit : (n : ℕ) (x : Symbol) (gs : List Goal) (t : Standing) → Fits n (Pairs ∷ gs) t → TurnFits n AnyWish gs t (takes Pairs x)
pairs_fit n (BeginKey at) gs t fits = ((tt, (value_next t fits.0, tt, (tt, (key_again t fits.0, fits.1)))), tt, tt)
pairs_fit n (One Kind.Key s) gs t fits = ((tt, (value_next t fits.0, (key_again t fits.0, fits.1))), tt, tt)
pairs_fit n (One Kind.Value s) gs t fits = ((tt, (key_again t fits.0, fits.1)), ((tt, tt), tt), tt)
pairs_fit n Close gs t fits = (fits.1, ((tt, tt), tt), tt)
pairs_fit n x gs t fits = tt

takes_fit : (n : ℕ) (g : Goal) (x : Symbol) (gs : List Goal) (t : Standing) → IsSymbolApart n x → Fits n (g ∷ gs) t → TurnFits n AnyWish gs t (takes g x)
takes_fit n Prefix (One Kind.Directive s) gs t apart fits = (fits, tt, tt)
takes_fit n Prefix (One Kind.DocStart s) gs t apart fits = (fits, tt, tt)
takes_fit n Directives (One Kind.Directive s) gs t apart fits = (fits, tt, tt)
takes_fit n Directives (One Kind.DocStart s) gs t apart fits = (fits, tt, tt)
takes_fit n Ending (One Kind.DocEnd s) gs t apart fits = (fits, tt, tt)
takes_fit n (Formed w ps) x gs t apart fits = node_fits n w ps x gs t apart fits.0 fits.1
takes_fit n Entries (One Kind.Entry s) gs t apart fits = ((tt, fits), tt, tt)
takes_fit n Entries Close gs t apart fits = (fits.1, ((tt, tt), tt), tt)
takes_fit n Indentless (One Kind.Entry s) gs t apart fits = ((tt, fits), tt, tt)
takes_fit n Pairs x gs t apart fits = pairs_fit n x gs t fits
takes_fit n (ValueOf w) (One Kind.Value s) gs t apart fits = ((tt, fits.1), tt, tt)
takes_fit n Colon (One Kind.Value s) gs t apart fits = (fits.2, tt, tt)
takes_fit n (Items b) x gs t apart fits = items_fit n b x gs t apart fits
takes_fit n (ItemEnd b) x gs t apart fits = item_end_fits n b x gs t fits
takes_fit n g x gs t apart fits = tt

-- a lexeme that asks for a value leaves a goal that is no key
entry_fits : (n : ℕ) (g : Goal) (s : ℕ) (gs : List Goal) (t : Standing) → Fits n (g ∷ gs) t → TurnFits n IsReady gs t (takes g (One Kind.Entry s))
entry_fits n (Formed (InBlock true) ps) s gs t fits =
    turn_of_node n IsReady ps shape.SequenceStart (Some s) (Formed (InBlock false) None ∷ Indentless ∷ []) gs t fits.0 tt (tt, (refl, fits.1)) (tt, refl)
entry_fits n Entries s gs t fits = ((tt, fits), tt, (tt, no_key_among t fits.0))
entry_fits n Indentless s gs t fits = ((tt, fits), tt, (tt, no_key_among t fits.0))
entry_fits n (ItemEnd Square) s gs t fits = tt
entry_fits n (ItemEnd Curly) s gs t fits = tt
entry_fits n g s gs t fits = tt

colon_fits : (n : ℕ) (g : Goal) (s : ℕ) (gs : List Goal) (t : Standing) → Fits n (g ∷ gs) t → TurnFits n IsReady gs t (takes g (One Kind.Value s))
colon_fits n Pairs s gs t fits = ((tt, (key_again t fits.0, fits.1)), ((tt, tt), tt), (tt, value_next t fits.0))
colon_fits n (ValueOf w) s gs t fits = ((tt, fits.1), tt, (tt, fits.0))
colon_fits n Colon s gs t fits = (fits.2, tt, (fits.1, fits.0))
colon_fits n (Items b) s gs t fits = value_fits n b s gs t fits
colon_fits n (ItemEnd Square) s gs t fits = tt
colon_fits n (ItemEnd Curly) s gs t fits = tt
colon_fits n g s gs t fits = tt

asking_fits : (n : ℕ) (k : Kind) → asks_for_value k ≡ true → (g : Goal) (s : ℕ) (gs : List Goal) (t : Standing) → Fits n (g ∷ gs) t → TurnFits n IsReady gs t (takes g (One k s))
asking_fits n Kind.Entry asks = entry_fits n
asking_fits n Kind.Value asks = colon_fits n
asking_fits n k asks = cc

-- ---- a step, and a run

pub record StateFits (n : ℕ) (xs ys : List LexemeValue) (wish : Wish) (goals : List Goal) (out : List Outline) : Type 0 where
  pub standing : Standing
  pub told : Told xs ys out standing
  pub fits : Fits n goals standing
  pub wished : wish goals standing

abbrev StepFits : ℕ → List LexemeValue → List LexemeValue → Wish → Option ParserState → Type 0
StepFits n xs ys wish None = Unit {0}
StepFits n xs ys wish (Some s) = StateFits n xs ys wish s.goals s.events

turned : (n : ℕ) (xs ys : List LexemeValue) → DifferAt n xs ys → (wish : Wish) (gs : List Goal) (out : List Outline) (t : Standing) → Told xs ys out t
    → (next : List Outline → Option ParserState) → ((out' : List Outline) (t' : Standing) → Told xs ys out' t' → Fits n gs t' → StepFits n xs ys wish (next out'))
    → (turn : Option Turn) (left : Option (List Outline)) → TurnFits n wish gs t turn → LeavingFits n gs t left → StepFits n xs ys wish (m.state_after_turn gs out next turn left)
turned n xs ys d wish gs out t told next onward (Some turn) left fits leaving =
    record { standing = after_all turn.events t; told = told_apart n xs ys d turn.events out t told fits.1; fits = fits.0; wished = fits.2 }
turned n xs ys d wish gs out t told next onward None (Some es) fits leaving = onward (out then es) (after_all es t) (told_apart n xs ys d es out t told leaving.1) leaving.0
turned n xs ys d wish gs out t told next onward None None fits leaving = tt

step_fits : (n : ℕ) (xs ys : List LexemeValue) → DifferAt n xs ys → (wish : Wish) (x : Symbol) → ((g : Goal) (gs : List Goal) (t : Standing) → Fits n (g ∷ gs) t → TurnFits n wish gs t (takes g x))
    → (gs : List Goal) (out : List Outline) (t : Standing) → Told xs ys out t → Fits n gs t → StepFits n xs ys wish (step gs out x)
step_fits n xs ys d wish x turns [] out t told fits = tt
step_fits n xs ys d wish x turns (g ∷ gs) out t told fits =
    turned n xs ys d wish gs out t told (λ out'. step gs out' x) (λ out' t' told' fits'. step_fits n xs ys d wish x turns gs out' t' told' fits') (takes g x) (leaves g)
    (turns g gs t fits) (leaving_fits n g gs t fits)

-- the typed scalar is taken by the node that comes first
typed_fits : (n : ℕ) (xs ys : List LexemeValue) → DifferAt n xs ys → (style : Style) (gs : List Goal) (out : List Outline) (t : Standing) → Told xs ys out t → Fits n gs t → IsReady gs t
    → StepFits n xs ys AnyWish (step gs out (One (Kind.Scalar style) n))
typed_fits n xs ys d style (Formed w None ∷ gs) out t told fits ready = record {
  standing = flip t;
  told = told_more xs ys out t (bare_event (shape.Scalar style) (Some n)) told (λ s is. typed_event n xs ys d style s (subst IsNoKey (sym is) ready.1));
  fits = fits.1;
  wished = tt;
}
typed_fits n xs ys d style gs out t told fits ready = absurd ready.0

abbrev RunFits : List LexemeValue → List LexemeValue → Option (List Outline) → Type 0
RunFits xs ys None = Unit {0}
RunFits xs ys (Some out) = AllAlike start (map (event_of_outline xs) (out ++ end_event shape.DocumentEnd ∷ [])) (map (event_of_outline ys) (out ++ end_event shape.DocumentEnd ∷ []))

onward_fits : (n : ℕ) (xs ys : List LexemeValue) (wish : Wish) (next : ParserState → Option (List Outline)) (r : Option ParserState) → StepFits n xs ys wish r
    → ((s : ParserState) → StateFits n xs ys wish s.goals s.events → RunFits xs ys (next s)) → RunFits xs ys (m.onward next r)
onward_fits n xs ys wish next None fits rest = tt
onward_fits n xs ys wish next (Some s) fits rest = rest s fits

finished : (n : ℕ) (xs ys : List LexemeValue) → DifferAt n xs ys → (gs : List Goal) (out : List Outline) (t : Standing) → Told xs ys out t
    → (next : List Outline → Option (List Outline)) → ((out' : List Outline) (t' : Standing) → Told xs ys out' t' → Fits n gs t' → RunFits xs ys (next out'))
    → (left : Option (List Outline)) → LeavingFits n gs t left → RunFits xs ys (m.events_after_leaving next out left)
finished n xs ys d gs out t told next onward None leaving = tt
finished n xs ys d gs out t told next onward (Some es) leaving = onward (out then es) (after_all es t) (told_apart n xs ys d es out t told leaving.1) leaving.0

finish_fits : (n : ℕ) (xs ys : List LexemeValue) → DifferAt n xs ys → (gs : List Goal) (out : List Outline) (t : Standing) → Told xs ys out t → Fits n gs t → RunFits xs ys (finish gs out)
finish_fits n xs ys d [] out t told fits = (told_more xs ys out t (end_event shape.DocumentEnd) told (λ s is. alike_same s _ _ (same_event n xs ys d (end_event shape.DocumentEnd) (tt, tt)))).alike
finish_fits n xs ys d (g ∷ gs) out t told fits =
    finished n xs ys d gs out t told (λ out'. finish gs out') (λ out' t' told' fits'. finish_fits n xs ys d gs out' t' told' fits') (leaves g) (leaving_fits n g gs t fits)

-- behind the typed scalar
back_fits : (n : ℕ) (xs ys : List LexemeValue) → DifferAt n xs ys → (ws : List Symbol) → NoneAt n ws → (gs : List Goal) (out : List Outline) (t : Standing) → Told xs ys out t → Fits n gs t
    → RunFits xs ys (run ws gs out)
back_fits n xs ys d [] none gs out t told fits = finish_fits n xs ys d gs out t told fits
back_fits n xs ys d (x ∷ ws) none gs out t told fits = let apart = first_apart n x ws none in
    onward_fits n xs ys AnyWish (λ s. run ws s.goals s.events) (step gs out x)
    (step_fits n xs ys d AnyWish x (λ g gs' t' fits'. takes_fit n g x gs' t' apart.0 fits') gs out t told fits)
    (λ s is. back_fits n xs ys d ws apart.1 s.goals s.events is.standing is.told is.fits)

-- before it, and at it
front_fits : (n : ℕ) (xs ys : List LexemeValue) → DifferAt n xs ys → (k : Kind) (style : Style) (index : ℕ) (back : List Symbol) → asks_for_value k ≡ true → NoneAt n back
    → (front : List Symbol) → NoneAt n front → (gs : List Goal) (out : List Outline) (t : Standing) → Told xs ys out t → Fits n gs t
    → RunFits xs ys (run (front ++ One k index ∷ One (Kind.Scalar style) n ∷ back) gs out)
front_fits n xs ys d k style index back asks behind_it [] none gs out t told fits =
    onward_fits n xs ys IsReady (λ s. run (One (Kind.Scalar style) n ∷ back) s.goals s.events) (step gs out (One k index))
    (step_fits n xs ys d IsReady (One k index) (λ g gs' t' fits'. asking_fits n k asks g index gs' t' fits') gs out t told fits)
    (λ s is. onward_fits n xs ys AnyWish (λ s'. run back s'.goals s'.events) (step s.goals s.events (One (Kind.Scalar style) n))
    (typed_fits n xs ys d style s.goals s.events is.standing is.told is.fits is.wished)
    (λ s' is'. back_fits n xs ys d back behind_it s'.goals s'.events is'.standing is'.told is'.fits))
front_fits n xs ys d k style index back asks behind_it (x ∷ front) none gs out t told fits = let apart = first_apart n x front none in
    onward_fits n xs ys AnyWish (λ s. run (front ++ One k index ∷ One (Kind.Scalar style) n ∷ back) s.goals s.events) (step gs out x)
    (step_fits n xs ys d AnyWish x (λ g gs' t' fits'. takes_fit n g x gs' t' apart.0 fits') gs out t told fits)
    (λ s is. front_fits n xs ys d k style index back asks behind_it front apart.1 s.goals s.events is.standing is.told is.fits)

-- ---- the document

begun : (n : ℕ) (xs ys : List LexemeValue) → DifferAt n xs ys → Told xs ys (bare_event shape.DocumentStart None ∷ []) (flip (standing_of start))
begun n xs ys d = record { alike = (alike_same start _ _ (same_event n xs ys d (bare_event shape.DocumentStart None) (tt, tt)), tt); stands = refl }

with_end : (xs ys : List LexemeValue) (r : Option (List Outline)) (es : List Outline) → RunFits xs ys r → m.events_with_end r ≡ Some es → AllAlike start (map (event_of_outline xs) es) (map (event_of_outline ys) es)
with_end xs ys None es fits e = cc
with_end xs ys (Some out) es fits e =
    let same : out ++ end_event shape.DocumentEnd ∷ [] ≡ es = cc in
    subst (λ (l : List Outline). AllAlike start (map (event_of_outline xs) l) (map (event_of_outline ys) l)) same fits

pub events_law : EventsLaw
events_law o ws es k style n xs ys asks b d derived = same_findings o _ _
    (with_end xs ys (run (b.front ++ One k b.index ∷ One (Kind.Scalar style) n ∷ b.back) m.goals_of_document (bare_event shape.DocumentStart None ∷ [])) es
    (front_fits n xs ys d k style b.index b.back asks b.none_behind b.front b.none_before m.goals_of_document (bare_event shape.DocumentStart None ∷ []) (flip (standing_of start)) (begun n xs ys d) (tt, tt))
    (sym (ap parse b.parts) ∙ complete ws es derived))
