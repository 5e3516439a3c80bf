-- Problems in order: their lines ascend, so the lines part them.
use Rattle.std.proofs.Common.{◌≡◌, ℕ, suc, ◌+◌, ◌<◌, ◌≤◌, Bool, true, false, cond, leb, List, [], ◌∷◌, ◌++◌, take, drop, refl, ap, sym, ◌∙◌, arith}
use Rattle.std.specs.Prelude.{not}
use Rattle.std.specs.List.{AllByRecursion, filter, prefix_len}
use Rattle.std.specs.List.Sorted.{IsStrictlySortedBy}
use Rattle.std.specs.Ordering.{MatchOrdering, is_lt, nat_cmp, ordering_reverse, ordering_then}
use Rattle.std.specs.Cmp.{nat_cmp_is, ranked}
use Rattle.std.specs.declared.cmp.Ordering.{Ordering}
use Rattle.std.specs.declared.cmp.Ordering.TheVariants.{Less, Equal, Greater}
use Rattle.std.proofs.lemmas.Bool.{leb-false, leb-true, lt-leb}
use Rattle.std.proofs.lemmas.List.Kept.{IsStrictlySortedBy-filter}
use Rattle.yl_text.proofs.Every.{all_both, all_front, all_last, all_then}
use Rattle.yl_report.specs.Report.{ProblemValue, order_in_line}
use Rattle.yl_report.specs.Told.{finding_told}
use Rattle.yl_report.proofs.Order.{order_total}
use Rattle.yl_problem_lists.specs.Order.{IsInOrder, comes_before, problem_order}
use Rattle.yl_problem_lists.specs.Parts.{above, behind, is_upto}

-- ---- lists of which each has a property

-- what all pass stays, what none passes goes
pub filter_all : {X : Type 0} (p : X → Bool) (xs : List X) → AllByRecursion (λ x. p x ≡ true) xs → filter p xs ≡ xs
filter_all p [] h = refl
filter_all p (x ∷ xs) h = rw h.0 (ap (λ ys. x ∷ ys) (filter_all p xs h.1))

pub filter_none : {X : Type 0} (p : X → Bool) (xs : List X) → AllByRecursion (λ x. p x ≡ false) xs → filter p xs ≡ []
filter_none p [] h = refl
filter_none p (x ∷ xs) h = rw h.0 (filter_none p xs h.1)

-- tests that say the same of each
pub filter_same : {X : Type 0} (p q : X → Bool) (xs : List X) → AllByRecursion (λ x. p x ≡ q x) xs → filter p xs ≡ filter q xs
filter_same p q [] h = refl
filter_same p q (x ∷ xs) h = rw h.0 (ap (λ ys. cond (q x) (x ∷ ys) ys) (filter_same p q xs h.1))

-- two tests in either order
pub filter_swap : {X : Type 0} (p q : X → Bool) (xs : List X) → filter p (filter q xs) ≡ filter q (filter p xs)
filter_swap p q [] = refl
filter_swap {X} p q (x ∷ xs) = at (p x) (q x) refl refl (filter_swap p q xs)
  where
    at : (a b : Bool) → p x ≡ a → q x ≡ b → filter p (filter q xs) ≡ filter q (filter p xs) → filter p (cond b (x ∷ filter q xs) (filter q xs)) ≡ filter q (cond a (x ∷ filter p xs) (filter p xs))
    at true true e d h = rw (e, d) (ap (λ ys. x ∷ ys) h)
    at true false e d h = rw d h
    at false true e d h = rw e h
    at false false e d h = h

-- ---- order

then_less : (o r : Ordering) (a b : ℕ) → MatchOrdering o (a < b) (a ≡ b) (b < a) → ordering_then o r ≡ Less → a ≤ b
then_less Less r a b m e = omega (arith, m)
then_less Equal r a b m e = omega (arith, m)
then_less Greater r a b m e = absurd (cc)

pub line_le : (p q : ProblemValue) → problem_order p q ≡ Less → p.line ≤ q.line
line_le p q e = then_less (nat_cmp p.line q.line) (order_in_line (finding_told p) (finding_told q)) p.line q.line (ranked p.line q.line (nat_cmp p.line q.line) refl) e

pub less_line : (p q : ProblemValue) → p.line < q.line → problem_order p q ≡ Less
less_line p q l = ap (λ (o : Ordering). ordering_then o (order_in_line (finding_told p) (finding_told q))) (sym (nat_cmp_is p.line q.line Less l))

lt_less : (o : Ordering) → is_lt o ≡ true → o ≡ Less
lt_less Less e = refl
lt_less Equal e = absurd (cc)
lt_less Greater e = absurd (cc)

pub before_less : (p q : ProblemValue) → comes_before p q ≡ true → problem_order p q ≡ Less
before_less p q e = lt_less (problem_order p q) e

pub less_before : (p q : ProblemValue) → problem_order p q ≡ Less → comes_before p q ≡ true
less_before p q e = ap is_lt e

pub less_trans : (p q r : ProblemValue) → problem_order p q ≡ Less → problem_order q r ≡ Less → problem_order p r ≡ Less
less_trans p q r e d = order_total.trans (finding_told p) (finding_told q) (finding_told r) e d

pub not_after : (p q : ProblemValue) → problem_order p q ≡ Less → comes_before q p ≡ false
not_after p q e = ap is_lt (order_total.antisymm (finding_told q) (finding_told p) ∙ ap ordering_reverse e)

pub line_of_not_before : (p q : ProblemValue) → comes_before q p ≡ false → p.line ≤ q.line
line_of_not_before p q e = at (leb p.line q.line) refl
  where
    at : (b : Bool) → leb p.line q.line ≡ b → p.line ≤ q.line
    at true h = leb-true p.line q.line h
    at false h = let wrong : true ≡ false = sym (less_before q p (less_line q p (leb-false p.line q.line h))) ∙ e in absurd (cc)

-- ---- lists in order

pub order_head : (p : ProblemValue) (ps : List ProblemValue) → IsInOrder (p ∷ ps) → AllByRecursion (λ q. problem_order p q ≡ Less) ps
unfolding IsStrictlySortedBy
order_head p ps s = s.0

pub order_tail : (p : ProblemValue) (ps : List ProblemValue) → IsInOrder (p ∷ ps) → IsInOrder ps
unfolding IsStrictlySortedBy
order_tail p ps s = s.1

pub order_cons : (p : ProblemValue) (ps : List ProblemValue) → AllByRecursion (λ q. problem_order p q ≡ Less) ps → IsInOrder ps → IsInOrder (p ∷ ps)
unfolding IsStrictlySortedBy
order_cons p ps a s = (a, s)

pub order_none : IsInOrder []
unfolding IsStrictlySortedBy
order_none = tt

pub order_filter : (f : ProblemValue → Bool) (ps : List ProblemValue) → IsInOrder ps → IsInOrder (filter f ps)
order_filter f ps s = IsStrictlySortedBy-filter problem_order f ps s

pub order_first : (ps qs : List ProblemValue) → IsInOrder (ps ++ qs) → IsInOrder ps
order_first [] qs s = order_none
order_first (p ∷ ps) qs s = order_cons p ps (all_front (λ q. problem_order p q ≡ Less) ps qs (order_head p (ps ++ qs) s)) (order_first ps qs (order_tail p (ps ++ qs) s))

-- those of the latter list stand behind the lines of the former
pub order_both : (n : ℕ) (ps qs : List ProblemValue) → AllByRecursion (λ p. is_upto n p ≡ true) ps → AllByRecursion (λ q. is_upto n q ≡ false) qs → IsInOrder ps → IsInOrder qs → IsInOrder (ps ++ qs)
order_both n [] qs a b s t = t
order_both n (p ∷ ps) qs a b s t =
    order_cons p (ps ++ qs)
    (all_both (λ q. problem_order p q ≡ Less) ps qs (order_head p ps s)
    (all_then (λ q. is_upto n q ≡ false) (λ q. problem_order p q ≡ Less) qs (λ q e. less_line p q (omega (arith, leb-true p.line n a.0, leb-false q.line n e))) b))
    (order_both n ps qs a.1 b (order_tail p ps s) t)

pub order_front : (ps : List ProblemValue) (q : ProblemValue) → IsInOrder (ps ++ q ∷ []) → IsInOrder ps
order_front [] q s = order_none
order_front (p ∷ ps) q s = order_cons p ps (all_front (λ r. problem_order p r ≡ Less) ps (q ∷ []) (order_head p (ps ++ q ∷ []) s)) (order_front ps q (order_tail p (ps ++ q ∷ []) s))

pub all_before_last : (ps : List ProblemValue) (q : ProblemValue) → IsInOrder (ps ++ q ∷ []) → AllByRecursion (λ p. problem_order p q ≡ Less) ps
all_before_last [] q s = tt
all_before_last (p ∷ ps) q s = (all_last (λ r. problem_order p r ≡ Less) ps q (order_head p (ps ++ q ∷ []) s), all_before_last ps q (order_tail p (ps ++ q ∷ []) s))

-- ---- parted by lines

pub is_late : (n : ℕ) (p q : ProblemValue) → is_upto n p ≡ false → p.line ≤ q.line → is_upto n q ≡ false
is_late n p q e l = lt-leb q.line n (omega (arith, leb-false p.line n e, l))

all_late : (n : ℕ) (p : ProblemValue) (ps : List ProblemValue) → is_upto n p ≡ false → AllByRecursion (λ q. problem_order p q ≡ Less) ps → AllByRecursion (λ q. is_upto n q ≡ false) ps
all_late n p ps e a = all_then (λ q. problem_order p q ≡ Less) (λ q. is_upto n q ≡ false) ps (λ q h. is_late n p q e (line_le p q h)) a

one_more : (k : ℕ) → 1 + k ≡ suc k
one_more k = omega arith

above_step : (n : ℕ) (b : Bool) (p : ProblemValue) (ps : List ProblemValue) → is_upto n p ≡ b → AllByRecursion (λ q. problem_order p q ≡ Less) ps → above n ps ≡ filter (is_upto n) ps
    → take (cond b (1 + prefix_len (is_upto n) ps) 0) (p ∷ ps) ≡ cond b (p ∷ filter (is_upto n) ps) (filter (is_upto n) ps)
above_step n true p ps e a h = ap (λ k. take k (p ∷ ps)) (one_more (prefix_len (is_upto n) ps)) ∙ ap (λ qs. p ∷ qs) h
above_step n false p ps e a h = sym (filter_none (is_upto n) ps (all_late n p ps e a))

pub above_is : (n : ℕ) (ps : List ProblemValue) → IsInOrder ps → above n ps ≡ filter (is_upto n) ps
above_is n [] s = refl
above_is n (p ∷ ps) s = above_step n (is_upto n p) p ps refl (order_head p ps s) (above_is n ps (order_tail p ps s))

behind_step : (n : ℕ) (b : Bool) (p : ProblemValue) (ps : List ProblemValue) → is_upto n p ≡ b → AllByRecursion (λ q. problem_order p q ≡ Less) ps → behind n ps ≡ filter (λ q. not (is_upto n q)) ps
    → drop (cond b (1 + prefix_len (is_upto n) ps) 0) (p ∷ ps) ≡ cond (not b) (p ∷ filter (λ q. not (is_upto n q)) ps) (filter (λ q. not (is_upto n q)) ps)
behind_step n true p ps e a h = ap (λ k. drop k (p ∷ ps)) (one_more (prefix_len (is_upto n) ps)) ∙ h
behind_step n false p ps e a h =
    ap (λ qs. p ∷ qs) (sym (filter_all (λ q. not (is_upto n q)) ps (all_then (λ q. is_upto n q ≡ false) (λ q. not (is_upto n q) ≡ true) ps (λ q d. ap not d) (all_late n p ps e a))))

pub behind_is : (n : ℕ) (ps : List ProblemValue) → IsInOrder ps → behind n ps ≡ filter (λ q. not (is_upto n q)) ps
behind_is n [] s = refl
behind_is n (p ∷ ps) s = behind_step n (is_upto n p) p ps refl (order_head p ps s) (behind_is n ps (order_tail p ps s))

-- a filter of what is in order leaves the lines apart
pub above_filter : (n : ℕ) (f : ProblemValue → Bool) (ps : List ProblemValue) → IsInOrder ps → above n (filter f ps) ≡ filter f (above n ps)
above_filter n f ps s = above_is n (filter f ps) (order_filter f ps s) ∙ filter_swap (is_upto n) f ps ∙ ap (filter f) (sym (above_is n ps s))

pub behind_filter : (n : ℕ) (f : ProblemValue → Bool) (ps : List ProblemValue) → IsInOrder ps → behind n (filter f ps) ≡ filter f (behind n ps)
behind_filter n f ps s = behind_is n (filter f ps) (order_filter f ps s) ∙ filter_swap (λ q. not (is_upto n q)) f ps ∙ ap (filter f) (sym (behind_is n ps s))

-- what stands behind the lines does
pub all_behind : (n : ℕ) (ps : List ProblemValue) → IsInOrder ps → AllByRecursion (λ q. is_upto n q ≡ false) (behind n ps)
all_behind n ps s = rw (behind_is n ps s) (passing ps)
  where
    one : (b : Bool) (p : ProblemValue) (qs : List ProblemValue) → is_upto n p ≡ b → AllByRecursion (λ q. is_upto n q ≡ false) qs → AllByRecursion (λ q. is_upto n q ≡ false) (cond (not b) (p ∷ qs) qs)
    one true p qs e h = h
    one false p qs e h = (e, h)

    passing : (qs : List ProblemValue) → AllByRecursion (λ q. is_upto n q ≡ false) (filter (λ q. not (is_upto n q)) qs)
    passing [] = tt
    passing (q ∷ qs) = one (is_upto n q) q (filter (λ r. not (is_upto n r)) qs) refl (passing qs)
