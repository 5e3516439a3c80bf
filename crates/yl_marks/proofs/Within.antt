-- The keys of a line's lexemes begin in the line.
use Rattle.std.proofs.Common.{◌≡◌, ◌<◌, ◌≤◌, ◌+◌, ◌⊎◌, ⊎_elim, ℕ, suc, Bool, true, false, cond, not, ◌||◌, List, [], ◌∷◌, Option, Some, None, length, refl, ◌∙◌, ap, subst, arith}
use Rattle.std.proofs.lemmas.Bool.{ne_eqb}
use Rattle.yl_lexeme.specs.declared.lexeme.Kind.{Kind}
use Rattle.yl_lexeme.specs.Lexeme.{is_opening, is_closing, is_property, is_anchor, is_leaf, is_value}
use Rattle.yl_lexeme.specs.Past.{is_near}
use Rattle.yl_lexeme.specs.Keys.{Spot, key_start}
use Rattle.yl_lexeme.specs.Kept.{KeyUnitValue, all_but_first, first_of, flattened_option, content_start, property_start, key_unit_behind, key_unit_of}
use Rattle.yl_lexeme.proofs.Units.{keeps}
use Rattle.yl_marks.specs.declared.token.Token.{Token}
use Rattle.yl_marks.specs.declared.symbol.KeyedToken.{KeyedToken}
use Rattle.yl_marks.specs.declared.symbol.KeyStart.{KeyStart}
use Rattle.yl_marks.specs.Keys.{depth_behind, place_of, keyed_token_at, key_at}
use Rattle.yl_marks.specs.Marks.{is_at, begins_key}
use Rattle.yl_marks.specs.ByLine.{line_pieces}

-- ---- what holds of each start of a line's lexemes holds of the start of the unit that the latest make

module _ (T : Type 0) (P : Option T → Type 0) (none : P None) where
  choose : (b : Bool) (x y : Option T) → P x → P y → P (cond b x y)
  choose true x y p q = p
  choose false x y p q = q

  abbrev pub Starts : List (Spot T) → Type 0
  Starts [] = Unit {0}
  Starts (x ∷ xs) = P x.start × Starts xs

  abbrev Each : List (Option T) → Type 0
  Each [] = Unit {0}
  Each (x ∷ xs) = P x × Each xs

  abbrev OfProperty : Option (Bool × Option T) → Type 0
  OfProperty None = Unit {0}
  OfProperty (Some p) = P p.1

  record Holds (k : KeyUnitValue T) : Type 0 where
    unit : P k.unit
    outer : Each k.outer
    property : OfProperty k.property

  of_first : (xs : List (Option T)) → Each xs → P (flattened_option (first_of xs))
  of_first [] h = none
  of_first (x ∷ xs) h = h.0

  of_content : (own unit : Option T) (property : Option (Bool × Option T)) → P own → P unit → P (content_start own unit property)
  of_content own unit None p q = p
  of_content own unit (Some property) p q = q

  of_property : (anchor : Bool) (own : Option T) (property : Option (Bool × Option T)) → P own → OfProperty property → P (property_start anchor own property)
  of_property anchor own None p h = p
  of_property anchor own (Some property) p h = choose (cond anchor (not property.0) property.0) property.1 own h p

  each_popped : (xs : List (Option T)) → Each xs → Each (all_but_first xs)
  each_popped [] h = h
  each_popped (x ∷ xs) h = h.1

  each_behind : (c o : Bool) (x : Option T) (xs : List (Option T)) → P x → Each xs → Each (cond c (all_but_first xs) (cond o (x ∷ xs) xs))
  each_behind true o x xs p h = each_popped xs h
  each_behind false true x xs p h = (p, h)
  each_behind false false x xs p h = h

  property_behind : (b anchor : Bool) (own : Option T) → P own → OfProperty (cond b (Some (anchor, own)) None)
  property_behind true anchor own p = p
  property_behind false anchor own p = tt

  one_more : (kind : Kind) (own : Option T) (k : KeyUnitValue T) → P own → Holds k → Holds (key_unit_behind kind own k)
  one_more kind own k p h =
      let content : P (content_start own k.unit k.property) = of_content own k.unit k.property p h.unit in
      record {
        unit = choose (is_closing kind) _ _ (of_first k.outer h.outer)
            (choose (is_leaf kind) _ _ content (choose (is_property kind) _ _ (of_property (is_anchor kind) own k.property p h.property) none));
        outer = each_behind (is_closing kind) (is_opening kind) _ k.outer content h.outer;
        property = property_behind (is_property kind) (is_anchor kind) own p;
      }

  holds_of : (xs : List (Spot T)) → Starts xs → Holds (key_unit_of xs)
  holds_of [] h = record { unit = none; outer = tt; property = tt }
  holds_of (x ∷ xs) h = one_more x.kind x.start (key_unit_of xs) h.0 (holds_of xs h.1)

  pub of_key : (xs : List (Spot T)) → Starts xs → P (key_start xs)
  of_key xs h = subst P (keeps xs) (holds_of xs h).unit

-- ---- the indices at which keys begin

abbrev pub IsWithin : ℕ → ℕ → Option KeyStart → Type 0
IsWithin from to None = Unit {0}
IsWithin from to (Some key) = (from ≤ key.index) × (key.index < to)

abbrev pub KeyIsWithin : ℕ → ℕ → Option ℕ → Type 0
KeyIsWithin from to None = Unit {0}
KeyIsWithin from to (Some k) = (from ≤ k) × (k < to)

abbrev pub KeysAreWithin : ℕ → ℕ → List KeyedToken → Type 0
KeysAreWithin from to [] = Unit {0}
KeysAreWithin from to (p ∷ ps) = KeyIsWithin from to p.key × KeysAreWithin from to ps

key_within : (from to column : ℕ) (key : Option KeyStart) → IsWithin from to key → KeyIsWithin from to (key_at column key)
key_within from to column None h = tt
key_within from to column (Some key) h = by_case (is_near column key.column)
  where
    by_case : (b : Bool) → KeyIsWithin from to (cond b (Some key.index) None)
    by_case true = h
    by_case false = tt

piece_within : (from to : ℕ) (b : Bool) (key : Option ℕ) → KeyIsWithin from to key → KeyIsWithin from to (cond b key None)
piece_within from to true key h = h
piece_within from to false key h = tt

place_within : (from to count : ℕ) (p : KeyedToken) → from ≤ count → count < to → IsWithin from to (place_of count p)
place_within from to count p h g = by_case p.may_begin
  where
    by_case : (b : Bool) → IsWithin from to (cond b (Some (record { index = count; column = p.start.col })) None)
    by_case true = (h, g)
    by_case false = tt

pub line_within : (from to count depth : ℕ) (latest : Option KeyedToken) (line : List (Spot KeyStart)) (xs : List Token) → from ≤ count → count + length xs ≤ to →
    Starts KeyStart (IsWithin from to) tt line → KeysAreWithin from to (line_pieces count depth latest line xs)
line_within from to count depth latest line [] h g s = tt
line_within from to count depth latest line (x ∷ xs) h g s =
    let p = keyed_token_at x depth latest (key_start line) in (
      piece_within from to (is_value x.kind) _ (key_within from to x.start.col (key_start line) (of_key KeyStart (IsWithin from to) tt line s)),
      line_within from to (suc count) (depth_behind x.kind depth) (Some p) (record { kind = x.kind; start = place_of count p } ∷ line) xs (omega arith) (omega arith)
          (place_within from to count p h (omega arith), s),
    )

key_elsewhere : (from to i : ℕ) (key : Option ℕ) → KeyIsWithin from to key → (i < from) ⊎ (to ≤ i) → is_at i key ≡ false
key_elsewhere from to i None h o = refl
key_elsewhere from to i (Some k) h o = ne_eqb k i (λ e. ⊎_elim (λ (l : i < from). absurd (omega (arith, h.0, e))) (λ (l : to ≤ i). absurd (omega (arith, h.1, e))) o)

pub no_key_elsewhere : (from to i : ℕ) (ps : List KeyedToken) → KeysAreWithin from to ps → (i < from) ⊎ (to ≤ i) → begins_key i ps ≡ false
no_key_elsewhere from to i [] h o = refl
no_key_elsewhere from to i (p ∷ ps) h o = ap (λ b. b || begins_key i ps) (key_elsewhere from to i p.key h.0 o) ∙ no_key_elsewhere from to i ps h.1 o
