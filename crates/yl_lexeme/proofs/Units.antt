-- What looking back over the lexemes of a line finds of a key is what is kept of them.
use Rattle.std.proofs.Common.{◌≡◌, ℕ, zero, suc, ◌+◌, ◌-◌, Bool, true, false, cond, not, ◌&&◌, List, [], ◌∷◌, Option, Some, None, refl, ap, sym, ◌∙◌, eqb, add-one, sub-one}
use Rattle.std.proofs.Math.Dec.{eqb-suc-zero, eqb-suc-suc}
use Rattle.std.specs.Prelude.{option_and_then, slice_get}
use Rattle.yl_lexeme.specs.declared.lexeme.Kind.{Kind}
use Rattle.yl_lexeme.specs.declared.lexeme.Kind.TheVariants.{Anchor, Tag}
use Rattle.yl_lexeme.specs.Lexeme.{is_opening, is_closing, is_property, is_anchor, is_leaf}
use Rattle.yl_lexeme.specs.Keys.{Spot, from_partner, from_properties, unit_from, or_from, key_start}
use Rattle.yl_lexeme.specs.Kept.{KeyUnitValue, all_but_first, first_of, flattened_option, content_start, property_start, key_unit_behind, key_unit_of}

-- without so many
abbrev pub without : {A : Type 0} → ℕ → List A → List A
without zero xs = xs
without (suc n) [] = []
without (suc n) (x ∷ xs) = without n xs

pub without-popped : {A : Type 0} (n : ℕ) (xs : List A) → without n (all_but_first xs) ≡ without (suc n) xs
without-popped zero [] = refl
without-popped (suc n) [] = refl
without-popped n (x ∷ xs) = refl

pub without-none : {A : Type 0} (n : ℕ) → without {A = A} n [] ≡ []
without-none zero = refl
without-none (suc n) = refl

pub without-one : {A : Type 0} (n : ℕ) (xs : List A) → without (suc n) xs ≡ without n (without 1 xs)
without-one n [] = sym (without-none n)
without-one n (x ∷ xs) = refl

abbrev property_if : {T : Type 0} → Bool → Spot T → Option (Bool × Option T)
property_if b x = cond b (Some (is_anchor x.kind, x.start)) None

abbrev property_of : {T : Type 0} → List (Spot T) → Option (Bool × Option T)
property_of [] = None
property_of (x ∷ xs) = property_if (is_property x.kind) x

-- where a list's first lexeme begins, if a key may begin there
abbrev start_of : {T : Type 0} → List (Spot T) → Option T
start_of xs = option_and_then (λ x. x.start) (slice_get xs 0)

-- two properties of one node
abbrev are_both : Kind → Kind → Bool
are_both k other = is_property other && cond (is_anchor k) (not (is_anchor other)) (is_anchor other)

-- where a content and its properties begin, if a list begins with the content's first lexeme
abbrev whole_start : {T : Type 0} → List (Spot T) → Option T
whole_start [] = None
whole_start (x ∷ xs) = start_of (or_from (from_properties xs) (x ∷ xs))

-- a property is no bracket, no alias and no scalar
property_alone : (k : Kind) → is_property k ≡ true → (is_closing k ≡ false) × (is_leaf k ≡ false)
property_alone Anchor h = (refl, refl)
property_alone Tag h = (refl, refl)
property_alone _ h = cc

no_properties : {T : Type 0} (x : Spot T) (xs : List (Spot T)) → is_property x.kind ≡ false → from_properties (x ∷ xs) ≡ []
no_properties x [] h = rw h
no_properties x (y ∷ xs) h = rw h

properties_same : {T : Type 0} (x : Spot T) (xs : List (Spot T)) → is_property x.kind ≡ true → start_of (from_properties (x ∷ xs)) ≡ property_start (is_anchor x.kind) x.start (property_of xs)
properties_same x [] h = rw h
properties_same x (y ∷ xs) h = rw h (by_case (is_property y.kind) (is_anchor x.kind) (is_anchor y.kind))
  where
    by_case : (py ax ay : Bool) → start_of (cond (py && cond ax (not ay) ay) (y ∷ xs) (x ∷ y ∷ xs)) ≡ property_start ax x.start (cond py (Some (ay, y.start)) None)
    by_case false ax ay = refl
    by_case true true true = refl
    by_case true true false = refl
    by_case true false true = refl
    by_case true false false = refl

content_same : {T : Type 0} (x : Spot T) (xs : List (Spot T)) → start_of (or_from (from_properties xs) (x ∷ xs)) ≡ content_start x.start (key_start xs) (property_of xs)
content_same x [] = refl
content_same x (y ∷ []) = by_case (is_property y.kind) (is_closing y.kind) (is_leaf y.kind) (property_alone y.kind)
  where
    by_case : (p c l : Bool) → (p ≡ true → (c ≡ false) × (l ≡ false)) →
        start_of (or_from (cond p (y ∷ []) []) (x ∷ y ∷ []))
        ≡ content_start x.start (start_of (unit_from (cond c [] (cond l (y ∷ []) [])) (cond p (y ∷ []) []))) (property_if p y)
    by_case false c l h = refl
    by_case true c l h = let e = h refl in rw (e.0, e.1)
content_same x (y ∷ z ∷ zs) = by_case (is_property y.kind) (is_closing y.kind) (is_leaf y.kind) (are_both y.kind z.kind) (property_alone y.kind)
  where
    by_case : (p c l b : Bool) → (p ≡ true → (c ≡ false) × (l ≡ false)) →
        start_of (or_from (cond (not p) [] (cond b (z ∷ zs) (y ∷ z ∷ zs))) (x ∷ y ∷ z ∷ zs))
        ≡ content_start x.start (start_of (unit_from (cond c (from_partner 1 (z ∷ zs)) (cond l (y ∷ z ∷ zs) [])) (cond (not p) [] (cond b (z ∷ zs) (y ∷ z ∷ zs))))) (property_if p y)
    by_case false c l b h = refl
    by_case true c l true h = let e = h refl in rw (e.0, e.1)
    by_case true c l false h = let e = h refl in rw (e.0, e.1)

-- what is kept of a line's lexemes: the unit, a last property, and the brackets' units
record Keeps (T : Type 0) (k : KeyUnitValue T) (here : List (Spot T)) : Type 0 where
  unit : k.unit ≡ key_start here
  property : k.property ≡ property_of here
  partner : (n : ℕ) → whole_start (from_partner (suc n) here) ≡ flattened_option (first_of (without n k.outer))

unit_alone : {T : Type 0} (xs : List (Spot T)) → start_of (unit_from xs []) ≡ whole_start xs
unit_alone [] = refl
unit_alone (x ∷ xs) = refl

module _ (T : Type 0) (k : KeyUnitValue T) (x : Spot T) (here : List (Spot T)) (ih : Keeps T k here) where
  starts : content_start x.start k.unit k.property ≡ whole_start (x ∷ here)
  starts = rw (ih.unit, ih.property) (sym (content_same x here))

  unit_kept : (key_unit_behind x.kind x.start k).unit ≡ key_start (x ∷ here)
  unit_kept = by_case (is_closing x.kind) (is_leaf x.kind) (is_property x.kind) (property_alone x.kind) (no_properties x here) (properties_same x here) starts ih.property (ih.partner 0)
    where
      by_case : (c l p : Bool) → (p ≡ true → (c ≡ false) × (l ≡ false)) → (p ≡ false → from_properties (x ∷ here) ≡ [])
          → (p ≡ true → start_of (from_properties (x ∷ here)) ≡ property_start (is_anchor x.kind) x.start (property_of here))
          → content_start x.start k.unit k.property ≡ whole_start (x ∷ here) → k.property ≡ property_of here → whole_start (from_partner 1 here) ≡ flattened_option (first_of k.outer) →
          cond c (flattened_option (first_of k.outer)) (cond l (content_start x.start k.unit k.property) (cond p (property_start (is_anchor x.kind) x.start k.property) None))
          ≡ start_of (unit_from (cond c (from_partner 1 here) (cond l (x ∷ here) [])) (from_properties (x ∷ here)))
      by_case true l true alone none some s pr pa = let e = alone refl in cc
      by_case true l false alone none some s pr pa = rw (none refl) (sym (unit_alone (from_partner 1 here) ∙ pa))
      by_case false true p alone none some s pr pa = s
      by_case false false true alone none some s pr pa = rw pr (sym (some refl))
      by_case false false false alone none some s pr pa = sym (ap start_of (none refl))

  partner_kept : (n : ℕ) → whole_start (from_partner (suc n) (x ∷ here)) ≡ flattened_option (first_of (without n (key_unit_behind x.kind x.start k).outer))
  partner_kept n = by_case (is_closing x.kind) (is_opening x.kind) n starts ih.partner
    where
      by_case : (c o : Bool) (n : ℕ) → content_start x.start k.unit k.property ≡ whole_start (x ∷ here) → ((n : ℕ) → whole_start (from_partner (suc n) here) ≡ flattened_option (first_of (without n k.outer))) →
          whole_start (cond c (from_partner (suc n + 1) here) (cond o (cond (eqb (suc n) 1) (x ∷ here) (from_partner (suc n - 1) here)) (from_partner (suc n) here)))
          ≡ flattened_option (first_of (without n (cond c (all_but_first k.outer) (cond o (content_start x.start k.unit k.property ∷ k.outer) k.outer))))
      by_case true o n s pa = rw (add-one, without-popped) (pa (suc n))
      by_case false true zero s pa = sym s
      by_case false true (suc n) s pa = rw (eqb-suc-suc, eqb-suc-zero, sub-one) (pa n)
      by_case false false n s pa = pa n

keeps_all : {T : Type 0} (here : List (Spot T)) → Keeps T (key_unit_of here) here
keeps_all [] = record { unit = refl; property = refl; partner = λ n. sym (ap (λ xs. flattened_option (first_of xs)) (without-none n)) }
keeps_all {T = T} (x ∷ here) =
    let ih = keeps_all here in
    record { unit = unit_kept T (key_unit_of here) x here ih; property = refl; partner = partner_kept T (key_unit_of here) x here ih }

pub keeps : {T : Type 0} (here : List (Spot T)) → (key_unit_of here).unit ≡ key_start here
keeps here = (keeps_all here).unit
