-- The number that digits write, digit by digit.
use Rattle.std.proofs.Common.{◌≡◌, ℕ, ◌+◌, ◌-◌, ◌*◌, ◌<◌, ◌≤◌, List, [], ◌∷◌, Option, Some, None, drop, get_or, length, refl, sym, ap, ◌∙◌, arith, add-one, drop-cons, if◌then◌else◌, nat_le}
use Rattle.std.proofs.lemmas.Grind.{common_steps}
use Rattle.yl_settings.specs.Words.{digits_behind}

pub digits_behind-least : (n : ℕ) (ds : List ℕ) → n ≤ digits_behind n ds
unfolding digits_behind
digits_behind-least n [] = omega arith
digits_behind-least n (d ∷ ds) = omega (arith, digits_behind-least (10 * n + (d - 48)) ds)

pub digits_behind-next : (v i all : ℕ) (ds : List ℕ) → i < length ds → digits_behind v (drop i ds) ≡ all
    → digits_behind (10 * v + (get_or ds i 0 - 48)) (drop (i + 1) ds) ≡ all
unfolding digits_behind
digits_behind-next v i all ds within are = rw add-one (sym (ap (digits_behind v) (drop-cons ds i 0 within)) ∙ are)

drop-length : (ds : List ℕ) → drop (length ds) ds ≡ []
drop-length [] = refl
drop-length (d ∷ ds) = drop-length ds

pub digits_behind-end : (v i all : ℕ) (ds : List ℕ) → i ≡ length ds → digits_behind v (drop i ds) ≡ all → v ≡ all
unfolding digits_behind
digits_behind-end v i all ds at_end are = sym (ap (digits_behind v) (ap (λ (k : ℕ). drop k ds) at_end ∙ drop-length ds)) ∙ are

pub too_large : (all v : ℕ) → 1000000 < v → v ≤ all → ◌≡◌ {A = Option ℕ} None (if nat_le all 1000000 then Some all else None)
too_large all v large least = grind (arith, common_steps)

pub small_enough : (all v : ℕ) → v ≤ 1000000 → v ≡ all → ◌≡◌ {A = Option ℕ} (Some v) (if nat_le all 1000000 then Some all else None)
small_enough all v small same = grind (arith, common_steps)
