-- Goals and open block collections are equal where `==` says so.
use Rattle.std.specs.Prelude.{ℕ, ◌≡◌, ◌==◌, ◌&&◌, refl, Bool, true, false, List, [], ◌∷◌, ◌++◌, map, reverse, Option, Some, None}
use mathlib.Core.Bool.{beq}
use Rattle.std.proofs.Common.{sym, ◌∙◌, ap, subst, true≢false}
use Rattle.std.proofs.lemmas.Bool.{and_parts}
use Rattle.std.proofs.lemmas.List.{map-append, reverse-reverse}
use Rattle.std.proofs.lemmas.Grind.{reverse_onto}
use Rattle.std.specs.Bool.{Decides}
use Rattle.std.specs.Option.{option_eq}
use Rattle.std.proofs.lemmas.Bool.Decides.{Decides-eqb}
use Rattle.yl_events.specs.declared.symbol.BracketKind.{BracketKind}
use Rattle.yl_events.specs.declared.symbol.BracketKind.TheVariants.{Square, Curly}
use Rattle.yl_events.specs.declared.symbol.Properties.{Properties}
use Rattle.yl_events.specs.declared.symbol.Properties.TheVariants.{Anchored, Tagged, AnchoredTagged, TaggedAnchored}
use Rattle.yl_events.specs.declared.symbol.Where.{Where}
use Rattle.yl_events.specs.declared.symbol.Where.TheVariants.{InInline, InBlock}
use Rattle.yl_events.specs.declared.symbol.Goal.{Goal}
use Rattle.yl_events.specs.declared.symbol.Goal.TheVariants.{Prefix, Directives, Ending, Formed, Entries, Indentless, Pairs, ValueOf, Colon, Items, ItemEnd, PairEnd, NodeEnd}
use Rattle.yl_events.specs.declared.symbol.OpenBlockCollection.{OpenBlockCollection}
use Rattle.yl_events.specs.declared.symbol.OpenBlockCollection.TheVariants.{InSequence, InMapping}
use Rattle.yl_events.specs.SymbolParsing.{SymbolParserValue}
use Rattle.yl_events.specs.State.{properties_state, goal_state, parser_state}
use Rattle.yl_events.specs.contracts.symbol.BracketKindPartialEq.TheImpl as bracket
use Rattle.yl_events.specs.contracts.symbol.OpenBlockCollectionPartialEq.TheImpl as block
use Rattle.yl_events.specs.contracts.symbol.WherePartialEq.TheImpl as place
use Rattle.yl_events.specs.contracts.symbol.PropertiesPartialEq.TheImpl as properties
use Rattle.yl_events.specs.contracts.symbol.GoalPartialEq.TheImpl as goal
use Rattle.yl_events.specs.contracts.symbol.GoalEq.TheImpl.Laws as goal_eq
use Rattle.yl_events.specs.contracts.symbol.OpenBlockCollectionEq.TheImpl.Laws as block_eq

-- ---- what `==` says of two values

flag_same : (a b : Bool) → beq a b ≡ true → a ≡ b
flag_same true true h = refl
flag_same false false h = refl
flag_same _ _ h = absurd (true≢false (sym h))

index_same : (a b : ℕ) → (a == b) ≡ true → a ≡ b
index_same a b h = (Decides-eqb a b).0 h

bracket_same : (a b : BracketKind) → bracket.ghosts.eq a b ≡ true → a ≡ b
bracket_same Square Square h = refl
bracket_same Curly Curly h = refl
bracket_same _ _ h = absurd (true≢false (sym h))

block_same : (a b : OpenBlockCollection) → block.ghosts.eq a b ≡ true → a ≡ b
block_same InSequence InSequence h = refl
block_same (InMapping a) (InMapping b) h = ap InMapping (flag_same a b h)
block_same _ _ h = absurd (true≢false (sym h))

place_same : (a b : Where) → place.ghosts.eq a b ≡ true → a ≡ b
place_same InInline InInline h = refl
place_same (InBlock a) (InBlock b) h = ap InBlock (flag_same a b h)
place_same _ _ h = absurd (true≢false (sym h))

both_same : (f : ℕ → ℕ → Properties) (a b c d : ℕ) → (a == c && b == d) ≡ true → f a b ≡ f c d
both_same f a b c d h =
    let both = and_parts (a == c) (b == d) h in
    ap (λ n. f n b) (index_same a c both.0) ∙ ap (f c) (index_same b d both.1)

properties_same : (a b : Properties) → properties.ghosts.eq a b ≡ true → a ≡ b
properties_same (Anchored a) (Anchored b) h = ap Anchored (index_same a b h)
properties_same (Tagged a) (Tagged b) h = ap Tagged (index_same a b h)
properties_same (AnchoredTagged a b) (AnchoredTagged c d) h = both_same AnchoredTagged a b c d h
properties_same (TaggedAnchored a b) (TaggedAnchored c d) h = both_same TaggedAnchored a b c d h
properties_same _ _ h = absurd (true≢false (sym h))

any_same : (ps qs : Option Properties) → option_eq properties.ghosts.eq ps qs ≡ true → ps ≡ qs
any_same None None h = refl
any_same (Some ps) (Some qs) h = ap Some (properties_same ps qs h)
any_same _ _ h = absurd (true≢false (sym h))

formed_same : (w v : Where) (ps qs : Option Properties) → goal.ghosts.eq (Formed w ps) (Formed v qs) ≡ true → Formed w ps ≡ Formed v qs
formed_same w v ps qs h =
    let both = and_parts (place.ghosts.eq w v) (option_eq properties.ghosts.eq ps qs) h in
    ap (λ u. Formed u ps) (place_same w v both.0) ∙ ap (Formed v) (any_same ps qs both.1)

goal_same : (a b : Goal) → goal.ghosts.eq a b ≡ true → a ≡ b
goal_same Prefix Prefix h = refl
goal_same Directives Directives h = refl
goal_same Ending Ending h = refl
goal_same (Formed w ps) (Formed v qs) h = formed_same w v ps qs h
goal_same Entries Entries h = refl
goal_same Indentless Indentless h = refl
goal_same Pairs Pairs h = refl
goal_same (ValueOf w) (ValueOf v) h = ap ValueOf (place_same w v h)
goal_same Colon Colon h = refl
goal_same (Items b) (Items c) h = ap Items (bracket_same b c h)
goal_same (ItemEnd b) (ItemEnd c) h = ap ItemEnd (bracket_same b c h)
goal_same (PairEnd b) (PairEnd c) h = ap PairEnd (bracket_same b c h)
goal_same (NodeEnd b) (NodeEnd c) h = ap NodeEnd (bracket_same b c h)
goal_same _ _ h = absurd (true≢false (sym h))

-- ---- what it says of a value and itself

pub block_decides : (a b : OpenBlockCollection) → Decides (block.ghosts.eq a b) (a ≡ b)
block_decides a b = (block_same a b, λ e. subst (λ c. block.ghosts.eq a c ≡ true) e (block_eq.laws-law.refl a))

pub goal_decides : (a b : Goal) → Decides (goal.ghosts.eq a b) (a ≡ b)
goal_decides a b = (goal_same a b, λ e. subst (λ c. goal.ghosts.eq a c ≡ true) e (goal_eq.laws-law.refl a))

-- ---- states

reversed : {A B : Type 0} (f : A → B) (xs : List A) → map f (reverse xs) ≡ reverse (map f xs)
reversed f [] = refl
reversed f (x ∷ xs) =
    ap (map f) (reverse_onto xs x [])
    ∙ map-append f (reverse xs) (x ∷ [])
    ∙ ap (λ ys. ys ++ f x ∷ []) (reversed f xs)
    ∙ sym (reverse_onto (map f xs) (f x) [])

property_again : (ps : Properties) → properties_state (properties_state ps) ≡ properties_state ps
property_again (Anchored a) = refl
property_again (Tagged t) = refl
property_again (AnchoredTagged a t) = refl
property_again (TaggedAnchored t a) = refl

goal_again : (g : Goal) → goal_state (goal_state g) ≡ goal_state g
goal_again (Formed w None) = refl
goal_again (Formed w (Some ps)) = ap (λ qs. Formed w (Some qs)) (property_again ps)
goal_again g = refl

all_again : (xs : List Goal) → map goal_state (map goal_state xs) ≡ map goal_state xs
all_again [] = refl
all_again (x ∷ xs) = ap (λ g. g ∷ map goal_state (map goal_state xs)) (goal_again x) ∙ ap (λ gs. goal_state x ∷ gs) (all_again xs)

pub goals_again : (xs ys : List Goal) → ys ≡ map goal_state xs → map goal_state ys ≡ ys
goals_again xs ys e = ap (map goal_state) e ∙ all_again xs ∙ sym e

pub goals_reversed : (xs ys : List Goal) → ys ≡ map goal_state xs → reverse ys ≡ map goal_state (reverse xs)
goals_reversed xs ys e = ap reverse e ∙ sym (reversed goal_state xs)

pub state_again : (xs : List Goal) (p : SymbolParserValue) → map goal_state xs ≡ xs → reverse xs ≡ p.goals → parser_state p ≡ p
state_again xs p h e =
    ap (λ gs. record p { goals = gs }) (ap (map goal_state) (sym e) ∙ reversed goal_state xs ∙ ap reverse h ∙ e)

pub same_reversed : {A : Type 0} (xs ys : List A) → reverse xs ≡ reverse ys → xs ≡ ys
same_reversed xs ys h = sym (reverse-reverse xs) ∙ ap reverse h ∙ reverse-reverse ys
