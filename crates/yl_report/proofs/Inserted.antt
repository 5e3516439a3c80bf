-- The list that insertion makes is arranged.
use Rattle.std.proofs.Common.{◌≡◌, List, [], ◌∷◌, refl, ◌∙◌, ap, ◌⊎◌, inl, inr, if◌then◌else◌}
use Rattle.std.specs.List.{AllByRecursion}
use Rattle.std.specs.List.Sorted.{IsStrictlySortedBy}
use Rattle.std.specs.Ordering.{ordering_reverse, is_lt, is_eq}
use Rattle.std.specs.declared.cmp.Ordering.{Ordering}
use Rattle.std.specs.declared.cmp.Ordering.TheVariants.{Less, Equal, Greater}
use Rattle.yl_text.specs.Finding.{FindingValue}
use Rattle.yl_report.specs.Report.{finding_order, insert_once, sorted_once}
use Rattle.yl_report.specs.Arranged.{IsArranged}
use Rattle.yl_report.proofs.Order.{order_total, only_equal}
use Rattle.yl_report.proofs.Unique.{In, in_from, from_in}

-- x before y and ys, or, where it comes behind y, the list `behind` into which x went
abbrev pub insert_by : Ordering → FindingValue → FindingValue → List FindingValue → List FindingValue → List FindingValue
insert_by o x y ys behind = if is_lt o then x ∷ y ∷ ys else if is_eq o then y ∷ ys else y ∷ behind

abbrev Above : FindingValue → List FindingValue → Type 0
Above z = AllByRecursion (λ f. finding_order z f ≡ Less)

above : (z x y : FindingValue) (ys behind : List FindingValue) (o : Ordering) → finding_order z x ≡ Less → Above z (y ∷ ys) → Above z behind → Above z (insert_by o x y ys behind)
above z x y ys behind Less h a b = (h, a)
above z x y ys behind Equal h a b = a
above z x y ys behind Greater h a b = (a.0, b)

above_insert : (z x : FindingValue) (ys : List FindingValue) → finding_order z x ≡ Less → Above z ys → Above z (insert_once x ys)
above_insert z x [] h a = (h, tt)
above_insert z x (y ∷ ys) h a = above z x y ys (insert_once x ys) (finding_order x y) h a (above_insert z x ys h a.1)

further : (x y : FindingValue) (ys : List FindingValue) → finding_order x y ≡ Less → Above y ys → Above x ys
further x y [] e a = tt
further x y (z ∷ zs) e a = (order_total.trans x y z e a.0, further x y zs e a.1)

sorted : (x y : FindingValue) (ys behind : List FindingValue) (o : Ordering) → finding_order x y ≡ o → IsStrictlySortedBy finding_order (y ∷ ys) → (finding_order y x ≡ Less → Above y behind) → IsStrictlySortedBy finding_order behind → IsStrictlySortedBy finding_order (insert_by o x y ys behind)
unfolding IsStrictlySortedBy
sorted x y ys behind Less e s a b = ((e, further x y ys e s.0), s)
sorted x y ys behind Equal e s a b = s
sorted x y ys behind Greater e s a b = (a (order_total.antisymm y x ∙ ap ordering_reverse e), b)

sorted_insert : (x : FindingValue) (ys : List FindingValue) → IsStrictlySortedBy finding_order ys → IsStrictlySortedBy finding_order (insert_once x ys)
unfolding IsStrictlySortedBy
sorted_insert x [] s = (tt, tt)
sorted_insert x (y ∷ ys) s = sorted x y ys (insert_once x ys) (finding_order x y) refl s (λ e. above_insert y x ys e s.0) (sorted_insert x ys s.1)

is_in : (f x y : FindingValue) (ys behind : List FindingValue) (o : Ordering) → finding_order x y ≡ o → ((f ≡ x) ⊎ In f (y ∷ ys)) → (((f ≡ x) ⊎ In f ys) → In f behind) → In f (insert_by o x y ys behind)
is_in f x y ys behind Less e h b = h
is_in f x y ys behind Equal e (inl k) b = inl (k ∙ only_equal x y e)
is_in f x y ys behind Equal e (inr h) b = h
is_in f x y ys behind Greater e (inl k) b = inr (b (inl k))
is_in f x y ys behind Greater e (inr (inl k)) b = inl k
is_in f x y ys behind Greater e (inr (inr h)) b = inr (b (inr h))

in_insert : (f x : FindingValue) (ys : List FindingValue) → ((f ≡ x) ⊎ In f ys) → In f (insert_once x ys)
in_insert f x [] h = h
in_insert f x (y ∷ ys) h = is_in f x y ys (insert_once x ys) (finding_order x y) refl h (in_insert f x ys)

was_in : (f x y : FindingValue) (ys behind : List FindingValue) (o : Ordering) → (In f behind → (f ≡ x) ⊎ In f ys) → In f (insert_by o x y ys behind) → (f ≡ x) ⊎ In f (y ∷ ys)
was_in f x y ys behind Less b h = h
was_in f x y ys behind Equal b h = inr h
was_in f x y ys behind Greater b (inl k) = inr (inl k)
was_in f x y ys behind Greater b (inr h) = deeper (b h)
  where
    deeper : ((f ≡ x) ⊎ In f ys) → (f ≡ x) ⊎ In f (y ∷ ys)
    deeper (inl k) = inl k
    deeper (inr g) = inr (inr g)

from_insert : (f x : FindingValue) (ys : List FindingValue) → In f (insert_once x ys) → (f ≡ x) ⊎ In f ys
from_insert f x [] h = h
from_insert f x (y ∷ ys) h = was_in f x y ys (insert_once x ys) (finding_order x y) (from_insert f x ys) h

all_sorted : (xs : List FindingValue) → IsStrictlySortedBy finding_order (sorted_once xs)
unfolding IsStrictlySortedBy
all_sorted [] = tt
all_sorted (x ∷ xs) = sorted_insert x (sorted_once xs) (all_sorted xs)

all_in : (f : FindingValue) (xs : List FindingValue) → In f xs → In f (sorted_once xs)
all_in f [] h = h
all_in f (x ∷ xs) (inl k) = in_insert f x (sorted_once xs) (inl k)
all_in f (x ∷ xs) (inr h) = in_insert f x (sorted_once xs) (inr (all_in f xs h))

only_in : (f : FindingValue) (xs : List FindingValue) → In f (sorted_once xs) → In f xs
only_in f [] h = h
only_in f (x ∷ xs) h = deeper (from_insert f x (sorted_once xs) h) (only_in f xs)
  where
    deeper : ((f ≡ x) ⊎ In f (sorted_once xs)) → (In f (sorted_once xs) → In f xs) → (f ≡ x) ⊎ In f xs
    deeper (inl k) b = inl k
    deeper (inr g) b = inr (b g)

pub sorted_once_arranged : (xs : List FindingValue) → IsArranged xs (sorted_once xs)
sorted_once_arranged xs = record {
  sorted = all_sorted xs;
  all = λ f h. from_in f (sorted_once xs) (all_in f xs (in_from f xs h));
  only = λ f h. from_in f xs (only_in f xs (in_from f (sorted_once xs) h));
}
