-- When two states are the same.
use Rattle.std.proofs.Common.{◌≡◌, ℕ, Bool, true, false, cond, ◌&&◌, List, [], ◌∷◌, Option, Some, None, refl, ap, sym, subst, ◌∙◌, eqb, eq-eqb, arith}
use Rattle.std.specs.Prelude.{nat_eq, IsTrue, ◌↔◌}
use lib.Pointwise.{pointwise}
use Rattle.std.specs.Ordering.{on}
use Rattle.std.proofs.lemmas.Bool.{eqb-true}
use Rattle.yl_lexeme.specs.declared.lexeme.Style.TheVariants.{Plain, Single, Double, Literal, Folded}
use Rattle.yl_lexeme.specs.declared.lexeme.Kind.{Kind}
use Rattle.yl_lexeme.specs.declared.lexeme.Kind.TheVariants.{Directive, DocStart, DocEnd, Entry, Key, Value, Comma, SeqOpen, SeqClose, MapOpen, MapClose, Alias, Anchor, Tag, Scalar}
use Rattle.yl_row.specs.Entries.{LineStateValue, Stopped, Stands}
use Rattle.yl_scan.specs.State.{kind_number, last_number, levels_in, brackets_in, last_in, state_eq, EqualsExactly}

eqb-refl : (n : ℕ) → eqb n n ≡ true
eqb-refl n = eq-eqb n n refl

-- a test that holds of what is the same and of nothing else
pub record IsExact {A : Type 0} (E : A → A → Bool) : Type 0 where
  pub same : (x y : A) → E x y ≡ true → x ≡ y
  pub itself : (x : A) → E x x ≡ true

and_left : (a b : Bool) → (a && b) ≡ true → a ≡ true
and_left true b h = refl
and_left false b h = h

and_right : (a b : Bool) → (a && b) ≡ true → b ≡ true
and_right true b h = h
and_right false b h = cc

both : (a b : Bool) → a ≡ true → b ≡ true → (a && b) ≡ true
both true b h k = k
both false b h k = h

same_bool : (a b : Bool) → (a ≡ true → b ≡ true) → (b ≡ true → a ≡ true) → a ≡ b
same_bool true b f g = sym (f refl)
same_bool false true f g = g refl
same_bool false false f g = refl

module _ {A : Type 0} (E : A → A → Bool) (exact : IsExact E) where
  same_items : (xs ys : List A) → pointwise E xs ys ≡ true → xs ≡ ys
  same_items [] [] h = refl
  same_items [] (y ∷ ys) h = cc
  same_items (x ∷ xs) [] h = cc
  same_items (x ∷ xs) (y ∷ ys) h =
      let p = exact.same x y (and_left (E x y) (pointwise E xs ys) h) in
      let q = same_items xs ys (and_right (E x y) (pointwise E xs ys) h) in
      λ i. p i ∷ q i

  items_itself : (xs : List A) → pointwise E xs xs ≡ true
  items_itself [] = refl
  items_itself (x ∷ xs) = both (E x x) (pointwise E xs xs) (exact.itself x) (items_itself xs)

  pub exact_items : IsExact (pointwise E)
  exact_items = record { same = same_items; itself = items_itself }

pub exact_numbers : IsExact nat_eq
exact_numbers = record { same = eqb-true; itself = eqb-refl }

kind_of : ℕ → Kind
kind_of n =
    cond (eqb n 0) Directive (
    cond (eqb n 1) DocStart (
    cond (eqb n 2) DocEnd (
    cond (eqb n 3) Entry (
    cond (eqb n 4) Key (
    cond (eqb n 5) Value (
    cond (eqb n 6) Comma (
    cond (eqb n 7) SeqOpen (
    cond (eqb n 8) SeqClose (
    cond (eqb n 9) MapOpen (
    cond (eqb n 10) MapClose (
    cond (eqb n 11) Alias (
    cond (eqb n 12) Anchor (
    cond (eqb n 13) Tag (
    cond (eqb n 14) (Scalar Plain) (
    cond (eqb n 15) (Scalar Single) (
    cond (eqb n 16) (Scalar Double) (
    cond (eqb n 17) (Scalar Literal) (
    (Scalar Folded)))))))))))))))))))

kind_back : (k : Kind) → kind_of (kind_number k) ≡ k
unfolding kind_of
kind_back Directive = refl
kind_back DocStart = refl
kind_back DocEnd = refl
kind_back Entry = refl
kind_back Key = refl
kind_back Value = refl
kind_back Comma = refl
kind_back SeqOpen = refl
kind_back SeqClose = refl
kind_back MapOpen = refl
kind_back MapClose = refl
kind_back Alias = refl
kind_back Anchor = refl
kind_back Tag = refl
kind_back (Scalar Plain) = refl
kind_back (Scalar Single) = refl
kind_back (Scalar Double) = refl
kind_back (Scalar Literal) = refl
kind_back (Scalar Folded) = refl

same_number : (a b : Kind) → kind_number a ≡ kind_number b → a ≡ b
same_number a b h = sym (kind_back a) ∙ ap kind_of h ∙ kind_back b

exact_kinds : IsExact (on kind_number nat_eq)
exact_kinds = record { same = λ a b h. same_number a b (eqb-true (kind_number a) (kind_number b) h); itself = λ a. eqb-refl (kind_number a) }

same_last : (a b : Option Kind) → last_number a ≡ last_number b → a ≡ b
same_last None None h = refl
same_last None (Some b) h = absurd (omega (arith, h))
same_last (Some a) None h = absurd (omega (arith, h))
same_last (Some a) (Some b) h = ap Some (same_number a b (omega (arith, h)))

same_parts : (s t : LineStateValue) → levels_in s ≡ levels_in t → brackets_in s ≡ brackets_in t → last_in s ≡ last_in t → s ≡ t
same_parts Stopped Stopped p q r = refl
same_parts Stopped (Stands levels brackets None) p q r = absurd (omega (arith, r))
same_parts Stopped (Stands levels brackets (Some k)) p q r = absurd (omega (arith, r))
same_parts (Stands levels brackets None) Stopped p q r = absurd (omega (arith, r))
same_parts (Stands levels brackets (Some k)) Stopped p q r = absurd (omega (arith, r))
same_parts (Stands levels brackets last) (Stands levels' brackets' last') p q r = λ i. Stands (p i) (q i) (same_last last last' r i)

same_states : (s t : LineStateValue) → state_eq s t ≡ true → s ≡ t
same_states s t h =
    let a = pointwise nat_eq (levels_in s) (levels_in t) in
    let b = pointwise (on kind_number nat_eq) (brackets_in s) (brackets_in t) in
    let c = eqb (last_in s) (last_in t) in
    same_parts s t
    (same_items nat_eq exact_numbers (levels_in s) (levels_in t) (and_left a (b && c) h))
    (same_items (on kind_number nat_eq) exact_kinds (brackets_in s) (brackets_in t) (and_left b c (and_right a (b && c) h)))
    (eqb-true (last_in s) (last_in t) (and_right b c (and_right a (b && c) h)))

state_itself : (s : LineStateValue) → state_eq s s ≡ true
state_itself s =
    both (pointwise nat_eq (levels_in s) (levels_in s)) _ (items_itself nat_eq exact_numbers (levels_in s))
    (both (pointwise (on kind_number nat_eq) (brackets_in s) (brackets_in s)) _ (items_itself (on kind_number nat_eq) exact_kinds (brackets_in s)) (eqb-refl (last_in s)))

pub states_told : EqualsExactly
states_told s t = (same_states s t, λ e. subst (λ t. state_eq s t ≡ true) e (state_itself s))

-- an answer that tells whether two states are the same
pub tells_state : (s t : LineStateValue) (b : Bool) → (IsTrue b ↔ (s ≡ t)) → b ≡ state_eq s t
tells_state s t b h = same_bool b (state_eq s t) (λ p. (states_told s t).1 (h.0 p)) (λ p. h.1 ((states_told s t).0 p))

pub items_tell : {A : Type 0} (E : A → A → Bool) → ((x y : A) → E x y ≡ true → x ≡ y) → ((x : A) → E x x ≡ true) → (b : Bool) (xs ys : List A) → b ≡ pointwise E xs ys → IsTrue b ↔ (xs ≡ ys)
items_tell E same itself b xs ys e =
    let exact = exact_items E (record { same = same; itself = itself }) in
    (λ h. exact.same xs ys (sym e ∙ h), λ h. e ∙ subst (λ ys. pointwise E xs ys ≡ true) h (exact.itself xs))

-- an answer that tells whether two lists are the same, if it says so
pub items_told : {A : Type 0} (E : A → A → Bool) → ((x y : A) → E x y ≡ true → x ≡ y) → ((x : A) → E x x ≡ true) → (xs ys : List A) → pointwise E xs ys ≡ true → xs ≡ ys
items_told E same itself xs ys e = (exact_items E (record { same = same; itself = itself })).same xs ys e
