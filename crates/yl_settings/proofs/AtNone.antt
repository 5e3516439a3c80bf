-- A value that is not there.
use Rattle.std.proofs.Common.{◌≡◌, Option, Some, None, MatchOption, refl}

-- what is said where there is no value
pub at_none : {A : Type 0} (r : Option A) (P : Type 0) (Q : A → Type 0) → ((x : A) → r ≡ Some x → ⊥) → MatchOption r P Q → P
at_none None P Q no_value h = h
at_none (Some x) P Q no_value h = absurd (no_value x refl)
