-- Where a key begins does not depend on how places are counted. Comparisons of lines or of indices
-- do not depend on the one from which both count.
use Rattle.std.proofs.Common.{◌≡◌, ◌+◌, ◌-◌, ℕ, Bool, true, false, cond, not, ◌&&◌, List, [], ◌∷◌, Option, Some, None, is_some, refl, ◌∙◌, ap, arith, eqb, ltb, map, slice_get}
use Rattle.std.specs.Prelude.{option_map, option_and_then}
use Rattle.std.proofs.lemmas.Bool.Decides.{nat_tests}
use Rattle.yl_lexeme.specs.Lexeme.{is_opening, is_closing, is_property, is_anchor, is_leaf}
use Rattle.yl_lexeme.specs.Keys.{Spot, from_partner, from_content, from_properties, or_from, unit_from, key_start}

-- ---- comparisons

pub same_order : (n a b : ℕ) → ltb (n + a) (n + b) ≡ ltb a b
same_order n a b = grind (arith, nat_tests)

pub same_place : (n a b : ℕ) → eqb (n + a) (n + b) ≡ eqb a b
same_place n a b = grind (arith, nat_tests)

pub is_some-map : {T U : Type 0} (f : T → U) (o : Option T) → is_some (option_map f o) ≡ is_some o
is_some-map f None = refl
is_some-map f (Some x) = refl

pub choice : {A B : Type 0} (f : A → B) (b : Bool) (x y : A) (v w : B) → v ≡ f x → w ≡ f y → cond b v w ≡ f (cond b x y)
choice f true x y v w p q = p
choice f false x y v w p q = q

-- ---- units of spots whose places are counted otherwise

abbrev pub spot_by : {T U : Type 0} → (T → U) → Spot T → Spot U
spot_by f x = record { kind = x.kind; start = option_map f x.start }

module _ (T U : Type 0) (f : T → U) where
  abbrev moved : List (Spot T) → List (Spot U)
  moved xs = map (spot_by f) xs

  partner_moved : (depth : ℕ) (xs : List (Spot T)) → from_partner depth (moved xs) ≡ moved (from_partner depth xs)
  partner_moved depth [] = refl
  partner_moved depth (x ∷ xs) =
      choice moved (is_closing x.kind) _ _ _ _ (partner_moved (depth + 1) xs)
      (choice moved (is_opening x.kind) _ _ _ _ (choice moved (eqb depth 1) (x ∷ xs) _ _ _ refl (partner_moved (depth - 1) xs)) (partner_moved depth xs))

  content_moved : (xs : List (Spot T)) → from_content (moved xs) ≡ moved (from_content xs)
  content_moved [] = refl
  content_moved (x ∷ xs) = choice moved (is_closing x.kind) _ _ _ _ (partner_moved 1 xs) (choice moved (is_leaf x.kind) (x ∷ xs) [] _ _ refl refl)

  properties_moved : (xs : List (Spot T)) → from_properties (moved xs) ≡ moved (from_properties xs)
  properties_moved [] = refl
  properties_moved (x ∷ []) = choice moved (is_property x.kind) (x ∷ []) [] _ _ refl refl
  properties_moved (x ∷ y ∷ xs) =
      choice moved (not (is_property x.kind)) [] _ _ _ refl
      (choice moved (is_property y.kind && cond (is_anchor x.kind) (not (is_anchor y.kind)) (is_anchor y.kind)) (y ∷ xs) (x ∷ y ∷ xs) _ _ refl refl)

  either_moved : (xs ys : List (Spot T)) → or_from (moved xs) (moved ys) ≡ moved (or_from xs ys)
  either_moved [] ys = refl
  either_moved (x ∷ xs) ys = refl

  unit_moved : (xs ys : List (Spot T)) → unit_from (moved xs) (moved ys) ≡ moved (unit_from xs ys)
  unit_moved [] ys = refl
  unit_moved (x ∷ xs) ys = ap (λ l. or_from l (moved (x ∷ xs))) (properties_moved xs) ∙ either_moved (from_properties xs) (x ∷ xs)

  abbrev first_start : {V : Type 0} → List (Spot V) → Option V
  first_start xs = option_and_then (λ x. x.start) (slice_get xs 0)

  first_moved : (xs : List (Spot T)) → first_start (moved xs) ≡ option_map f (first_start xs)
  first_moved [] = refl
  first_moved (x ∷ xs) = refl

  pub key_start_moved : (xs : List (Spot T)) → key_start (moved xs) ≡ option_map f (key_start xs)
  key_start_moved xs =
      ap (λ l. first_start (unit_from l (from_properties (moved xs)))) (content_moved xs)
      ∙ ap (λ l. first_start (unit_from (moved (from_content xs)) l)) (properties_moved xs)
      ∙ ap (λ l. first_start l) (unit_moved (from_content xs) (from_properties xs))
      ∙ first_moved (unit_from (from_content xs) (from_properties xs))
