-- Two lists in strict order with the same elements are equal.
use Rattle.std.proofs.Common.{◌≡◌, ◌<◌, zero, suc, List, [], ◌∷◌, length, refl, sym, ◌∙◌, ap, ◌⊎◌, inl, inr, arith}
use Rattle.std.specs.List.{Contains, AllByRecursion}
use Rattle.std.specs.List.Sorted.{IsStrictlySortedBy}
use Rattle.std.specs.Ordering.{ordering_reverse}
use Rattle.std.specs.declared.cmp.Ordering.TheVariants.{Less, Equal}
use Rattle.std.specs.Cmp.{tied_itself}
use Rattle.yl_text.specs.Finding.{FindingValue}
use Rattle.yl_report.specs.Report.{finding_order}
use Rattle.yl_report.specs.Arranged.{IsArranged}
use Rattle.yl_report.proofs.Order.{order_total}

abbrev pub In : FindingValue → List FindingValue → Type 0
In f [] = ⊥
In f (y ∷ ys) = (f ≡ y) ⊎ In f ys

pub in_from : (f : FindingValue) (ys : List FindingValue) → Contains ys f → In f ys
in_from f [] (k, h, e) = absurd (omega arith)
in_from f (y ∷ ys) (zero, h, e) = inl (sym e)
in_from f (y ∷ ys) (suc k, h, e) = let inside : k < length ys = omega arith in inr (in_from f ys (k, inside, e))

pub from_in : (f : FindingValue) (ys : List FindingValue) → In f ys → Contains ys f
from_in f [] h = absurd h
from_in f (y ∷ ys) (inl e) = (zero, omega arith, sym e)
from_in f (y ∷ ys) (inr h) = let c = from_in f ys h in let below : c.0 < length ys = c.1 in (suc c.0, omega arith, c.2)

below : (y f : FindingValue) (ys : List FindingValue) → AllByRecursion (λ z. finding_order y z ≡ Less) ys → In f ys → finding_order y f ≡ Less
below y f [] a h = absurd h
below y f (z ∷ zs) a (inl e) = rw e a.0
below y f (z ∷ zs) a (inr h) = below y f zs a.1 h

heads : (y z : FindingValue) (ys zs : List FindingValue) → AllByRecursion (λ x. finding_order y x ≡ Less) ys → AllByRecursion (λ x. finding_order z x ≡ Less) zs → In y (z ∷ zs) → In z (y ∷ ys) → y ≡ z
heads y z ys zs a b (inl e) _ = e
heads y z ys zs a b (inr h) (inl e) = sym e
heads y z ys zs a b (inr h) (inr g) =
    let one : finding_order z y ≡ Less = below z y zs b h in
    let two : finding_order y z ≡ Less = below y z ys a g in
    let back = order_total.antisymm y z in
    let wrong : Less ≡ ordering_reverse Less = sym two ∙ back ∙ ap ordering_reverse one in cc

tails : (y z : FindingValue) (ys zs : List FindingValue) → y ≡ z → AllByRecursion (λ x. finding_order y x ≡ Less) ys → (f : FindingValue) → In f (z ∷ zs) → In f ys → In f zs
tails y z ys zs e a f (inr h) g = h
tails y z ys zs e a f (inl k) g =
    let less : finding_order y f ≡ Less = below y f ys a g in
    let itself : finding_order y f ≡ Equal = rw (k, ← e) (tied_itself order_total y) in
    let wrong : Less ≡ Equal = sym less ∙ itself in cc

unique : (ys zs : List FindingValue) → IsStrictlySortedBy finding_order ys → IsStrictlySortedBy finding_order zs → ((f : FindingValue) → In f ys → In f zs) → ((f : FindingValue) → In f zs → In f ys) → ys ≡ zs
unfolding IsStrictlySortedBy
unique [] [] s t p q = refl
unique [] (z ∷ zs) s t p q = absurd (q z (inl refl))
unique (y ∷ ys) [] s t p q = absurd (p y (inl refl))
unique (y ∷ ys) (z ∷ zs) s t p q =
    let e : y ≡ z = heads y z ys zs s.0 t.0 (p y (inl refl)) (q z (inl refl)) in
    let rest : ys ≡ zs = unique ys zs s.1 t.1 (λ f h. tails y z ys zs e s.0 f (p f (inr h)) h) (λ f h. tails z y zs ys (sym e) t.0 f (q f (inr h)) h) in
    λ i. e i ∷ rest i

pub one_arrangement : (xs ys zs : List FindingValue) → IsArranged xs ys → IsArranged xs zs → ys ≡ zs
one_arrangement xs ys zs a b =
    unique ys zs a.sorted b.sorted
    (λ f h. in_from f zs (b.all f (a.only f (from_in f ys h))))
    (λ f h. in_from f ys (a.all f (b.only f (from_in f zs h))))
