-- Laws of the last switch at or before a line.
use Rattle.std.proofs.Common.{◌≡◌, ℕ, zero, suc, ◌+◌, ◌<◌, List, [], ◌∷◌, ◌++◌, Bool, true, false, cond, if◌then◌else◌, refl, sym, ap, ◌∙◌, take, length, get_or, arith, Option, Some, None, append-nil}
use Rattle.std.specs.Prelude.{nat_le}
use Rattle.std.specs.List.{filter, last_or, AllWithin}
use Rattle.std.proofs.lemmas.List.{take_more}
use Rattle.std.proofs.lemmas.List.Elements.{filter-append}
use Rattle.yl_report.specs.declared.marks.Switch.{Switch}
use Rattle.yl_report.specs.Switched.{is_off_by, is_off_at}

pub last_or_push : {X : Type 0} (o : Option X) (xs : List X) (x : X) → last_or o (xs ++ x ∷ []) ≡ Some x
last_or_push o [] x = refl
last_or_push o (y ∷ ys) x = last_or_push (Some y) ys x

-- what does not pass leaves the last as it was
pub last_or-filter_push : {X : Type 0} (p : X → Bool) (xs : List X) (x : X) (b : Bool) → p x ≡ b → last_or None (filter p (xs ++ x ∷ [])) ≡ cond b (Some x) (last_or None (filter p xs))
last_or-filter_push p xs x true e = rw (filter-append p xs (x ∷ []), e) (last_or_push None (filter p xs) x)
last_or-filter_push p xs x false e = rw (filter-append p xs (x ∷ []), e, append-nil (filter p xs)) refl

pushed : (ws : List Switch) (w : Switch) (at : ℕ) (b : Bool) → nat_le w.line at ≡ b → is_off_at (ws ++ w ∷ []) at ≡ cond b w.is_off (is_off_at ws at)
pushed ws w at true e = ap is_off_by (last_or-filter_push (λ (v : Switch). nat_le v.line at) ws w true e)
pushed ws w at false e = ap is_off_by (last_or-filter_push (λ (v : Switch). nat_le v.line at) ws w false e)

-- a switch at the end counts from its line on
pub switched_off-push : (old ws : List Switch) (w : Switch) (at : ℕ) (b : Bool) → nat_le w.line at ≡ b → (b ≡ false → is_off_at ws at ≡ is_off_at old at)
    → is_off_at (ws ++ w ∷ []) at ≡ (if b then w.is_off else is_off_at old at)
switched_off-push old ws w at true e h = pushed ws w at true e
switched_off-push old ws w at false e h = pushed ws w at false e ∙ h refl

-- and for nothing before it
pub switched_off-pop : (ws xs : List Switch) (w : Switch) (at : ℕ) → ws ≡ xs ++ w ∷ [] → nat_le w.line at ≡ false → is_off_at xs at ≡ is_off_at ws at
switched_off-pop ws xs w at e h = sym (ap (λ l. is_off_at l at) e ∙ pushed xs w at false h)

-- ---- in the order of the lines

front : {X : Type 0} (p : X → Bool) (xs : List X) (i : ℕ) → AllWithin (λ x. p x ≡ true) xs 0 i → AllWithin (λ x. p x ≡ false) xs i (length xs) → filter p xs ≡ take i xs
front p [] zero a b = refl
front p [] (suc i) a b = refl
front p (x ∷ xs) zero a b = rw (b 0 x (omega arith) (omega arith)) (front p xs zero (λ k d l h. absurd (omega arith)) (λ k d l h. b (suc k) d (omega arith) (omega arith)))
front p (x ∷ xs) (suc i) a b =
    rw (a 0 x (omega arith) (omega arith)) (ap (λ l. x ∷ l) (front p xs i (λ k d l h. a (suc k) d (omega arith) (omega arith)) (λ k d l h. b (suc k) d (omega arith) (omega arith))))

last_of_front : {X : Type 0} (xs : List X) (n : ℕ) (d : X) → n < length xs → last_or None (take (n + 1) xs) ≡ Some (get_or xs n d)
last_of_front xs n d h = rw (take_more xs n d h) (last_or_push None (take n xs) (get_or xs n d))

module _ (ws : List Switch) (at n : ℕ) (before : AllWithin (λ w. nat_le w.line at ≡ true) ws 0 n) (behind : AllWithin (λ w. nat_le w.line at ≡ false) ws n (length ws)) where
  pub switched_off-none : n ≡ 0 → is_off_at ws at ≡ false
  switched_off-none e = rw (front (λ (w : Switch). nat_le w.line at) ws n before behind, e) refl

  pub switched_off-at : (m : ℕ) (d : Switch) → n ≡ m + 1 → m < length ws → is_off_at ws at ≡ (get_or ws m d).is_off
  switched_off-at m d e h = ap is_off_by (ap (last_or None) (front (λ (w : Switch). nat_le w.line at) ws n before behind ∙ ap (λ k. take k ws) e) ∙ last_of_front ws m d h)
