-- What follows of optional values.
use Rattle.std.proofs.Common.{◌≡◌, true, false, Option, Some, subst}
use Rattle.std.specs.Prelude.{IfSome, IfOk, Result, Ok, Err}

-- no equation of both
pub never : {X : Type 0} → false ≡ true → X
never e = absurd (cc)

pub in_some : {X : Type 0} (P : X → Type 0) (o : Option X) (x : X) → o ≡ Some x → IfSome o P → P x
in_some {X = X} P o x e h = subst (λ (v : Option X). IfSome v P) e h

pub then_ok : {X E : Type 0} {P Q : X → Type 0} (r : Result X E) → IfOk r P → ((x : X) → P x → Q x) → IfOk r Q
then_ok (Ok x) p f = f x p
then_ok (Err e) p f = tt
