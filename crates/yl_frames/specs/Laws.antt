-- Bridge: laws of pieces that are put one after another.
use Rattle.std.specs.Prelude.{◌≡◌, ℕ, List, [], ◌++◌, ◌+◌, ◌-◌, ◌^◌, ◌<◌, length, min, Option, refl}
use Rattle.std.proofs.Common.{sym, ap, ◌∙◌, subst, append-nil, append_assoc, arith, length-append}
use Rattle.yl_devices.specs.Written.{AppendsFront, Passes}
use Rattle.yl_devices.proofs.Pieces.{passes_none, passes_go_on, passes_break, front_more}

-- a count that stops below 2^64
abbrev pub counted : ℕ → List ℕ → ℕ
counted n xs = min (n + length xs) (2 ^ 64 - 1)

pub counted_joined : (s t u : ℕ) (xs ys : List ℕ) → t ≡ counted s xs → u ≡ counted t ys → u ≡ counted s (xs ++ ys)
counted_joined s t u xs ys p q = omega (arith, length-append xs ys, p, q)

pub counted_nothing : (s : ℕ) → s < 2 ^ 64 → s ≡ counted s []
counted_nothing s h = omega arith

pub counted_stays : (s t : ℕ) (xs : List ℕ) → t ≡ counted s xs → t < 2 ^ 64
counted_stays s t xs p = omega arith

pub passes_nothing : (a : Option (List ℕ)) (p : List ℕ) → Passes a a p [] p
passes_nothing a p = passes_none a p [] p (sym (append-nil p))

pub passes_joined : (a b c : Option (List ℕ)) (p x q y r : List ℕ) → Passes a b p x q → Passes b c q y r → Passes a c p (x ++ y) r
passes_joined a b c p x q y r h g = passes_go_on a b c p x q y r (x ++ y) refl h g

pub passes_broken : (a b c : Option (List ℕ)) (p x q y : List ℕ) → Passes a b p x q → AppendsFront b c (q ++ y) → AppendsFront a c (p ++ (x ++ y))
passes_broken a b c p x q y h g = passes_break a b c p x q y (x ++ y) refl h g

pub front_longer : (a c : Option (List ℕ)) (p x y : List ℕ) → AppendsFront a c (p ++ x) → AppendsFront a c (p ++ (x ++ y))
front_longer a c p x y h = subst (AppendsFront a c) (append_assoc p x y) (front_more a c (p ++ x) y h)
