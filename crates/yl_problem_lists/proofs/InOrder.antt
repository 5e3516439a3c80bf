-- What stays in order.
use Rattle.std.proofs.Common.{◌≡◌, Bool, true, false, cond, List, [], ◌∷◌, Option, Some, None, refl, ap, sym, subst, ◌∙◌}
use Rattle.std.specs.Prelude.{not, IfSome}
use Rattle.std.specs.List.{AllByRecursion, filter}
use Rattle.std.specs.Ordering.{is_lt, ordering_reverse}
use Rattle.std.specs.declared.cmp.Ordering.{Ordering}
use Rattle.std.specs.declared.cmp.Ordering.TheVariants.{Less, Equal, Greater}
use Rattle.yl_text.proofs.Every.{all_then}
use Rattle.yl_text.specs.Finding.{FindingValue}
use Rattle.yl_report.specs.Report.{ProblemValue, is_syntax}
use Rattle.yl_report.specs.Told.{finding_told}
use Rattle.yl_report.proofs.Order.{only_equal, order_total}
use Rattle.yl_problem_lists.specs.Order.{IsInOrder, comes_before, merged, problem_order, put_in}
use Rattle.yl_problem_lists.specs.Parts.{PartsValue, is_no_fault, parted, with_fault}
use Rattle.yl_problem_lists.proofs.Ordered.{before_less, less_trans, order_cons, order_filter, order_head, order_none, order_tail}

pub parts_in_order : (f : ProblemValue → Bool) (ps : List ProblemValue) → IsInOrder ps → IsInOrder (parted f ps).shown × IsInOrder (parted f ps).suppressed
parts_in_order f ps s = (order_filter f ps s, order_filter (λ p. not (f p)) ps s)

-- all that is left by a filter passes
pub passing : {X : Type 0} (f : X → Bool) (xs : List X) → AllByRecursion (λ x. f x ≡ true) (filter f xs)
passing f [] = tt
passing {X} f (x ∷ xs) = at (f x) refl (passing f xs)
  where
    at : (b : Bool) → f x ≡ b → AllByRecursion (λ y. f y ≡ true) (filter f xs) → AllByRecursion (λ y. f y ≡ true) (cond b (x ∷ filter f xs) (filter f xs))
    at true e h = (e, h)
    at false e h = h

-- of two that are not told alike, the one that doesn't come behind comes before
first_of : (o : Ordering) → is_lt (ordering_reverse o) ≡ false → (o ≡ Equal → ⊥) → o ≡ Less
first_of Less e ne = refl
first_of Equal e ne = absurd (ne refl)
first_of Greater e ne = absurd (cc)

-- two are told apart by a test that the one passes and the other does not
pub apart : (f : FindingValue → Bool) (p q : ProblemValue) → f (finding_told p) ≡ true → f (finding_told q) ≡ false → problem_order p q ≡ Equal → ⊥
apart f p q s n e =
    let wrong : true ≡ false = sym s ∙ (ap f (only_equal (finding_told p) (finding_told q) e) ∙ n) in cc

-- this is told apart from each
abbrev pub IsApart : ProblemValue → List ProblemValue → Type 0
IsApart p ps = AllByRecursion (λ q. problem_order p q ≡ Equal → ⊥) ps

before_it : (p q : ProblemValue) → (problem_order p q ≡ Equal → ⊥) → comes_before q p ≡ false → problem_order p q ≡ Less
before_it p q ne e = first_of (problem_order p q) (ap is_lt (sym (order_total.antisymm (finding_told q) (finding_told p))) ∙ e) ne

pub all_put_in : (P : ProblemValue → Type 0) (p : ProblemValue) (ps : List ProblemValue) → P p → AllByRecursion P ps → AllByRecursion P (put_in p ps)
all_put_in P p [] h a = (h, tt)
all_put_in P p (q ∷ qs) h a = at (comes_before q p) (all_put_in P p qs h a.1)
  where
    at : (b : Bool) → AllByRecursion P (put_in p qs) → AllByRecursion P (cond b (q ∷ put_in p qs) (p ∷ q ∷ qs))
    at true k = (a.0, k)
    at false k = (h, a)

put_in_order : (p : ProblemValue) (ps : List ProblemValue) → IsApart p ps → IsInOrder ps → IsInOrder (put_in p ps)
put_in_order p [] n o = order_cons p [] tt order_none
put_in_order p (q ∷ qs) n o = at (comes_before q p) refl (put_in_order p qs n.1 (order_tail q qs o))
  where
    at : (b : Bool) → comes_before q p ≡ b → IsInOrder (put_in p qs) → IsInOrder (cond b (q ∷ put_in p qs) (p ∷ q ∷ qs))
    at true e h = order_cons q (put_in p qs) (all_put_in (λ r. problem_order q r ≡ Less) p qs (before_less q p e) (order_head q qs o)) h
    at false e h =
        let first = before_it p q n.0 e in
        order_cons p (q ∷ qs) (first, all_then (λ r. problem_order q r ≡ Less) (λ r. problem_order p r ≡ Less) qs (λ r l. less_trans p q r first l) (order_head q qs o)) o

-- ---- of two lists

pub all_merged : (P : ProblemValue → Type 0) (ps qs : List ProblemValue) → AllByRecursion P ps → AllByRecursion P qs → AllByRecursion P (merged ps qs)
all_merged P [] qs h k = k
all_merged P (p ∷ ps) qs h k = all_put_in P p (merged ps qs) h.0 (all_merged P ps qs h.1 k)

pub merged_in_order : (ps qs : List ProblemValue) → AllByRecursion (λ p. IsApart p qs) ps → IsInOrder ps → IsInOrder qs → IsInOrder (merged ps qs)
merged_in_order [] qs a s t = t
merged_in_order (p ∷ ps) qs a s t =
    let behind : IsApart p ps = all_then (λ q. problem_order p q ≡ Less) (λ q. problem_order p q ≡ Equal → ⊥) ps (λ q l e. let wrong : is_lt Less ≡ is_lt Equal = ap is_lt (sym l ∙ e) in cc) (order_head p ps s) in
    put_in_order p (merged ps qs) (all_merged (λ q. problem_order p q ≡ Equal → ⊥) ps qs behind a.0) (merged_in_order ps qs a.1 (order_tail p ps s) t)

-- ---- the text's fault

pub fault_in_order : (fault : Option ProblemValue) (ps : PartsValue) → IsInOrder ps.shown → filter is_no_fault ps.shown ≡ ps.shown → IfSome fault (λ p. is_syntax p.rule ≡ true) → IsInOrder (with_fault fault ps).shown
fault_in_order None ps s e h = s
fault_in_order (Some p) ps s e h =
    put_in_order p ps.shown
    (all_then (λ q. is_no_fault q ≡ true) (λ q. problem_order p q ≡ Equal → ⊥) ps.shown (λ q n. apart (λ f. is_syntax f.rule) p q h (not_true (is_syntax q.rule) n))
    (subst (λ (qs : List ProblemValue). AllByRecursion (λ q. is_no_fault q ≡ true) qs) e (passing is_no_fault ps.shown))) s
  where
    not_true : (b : Bool) → not b ≡ true → b ≡ false
    not_true true n = sym n
    not_true false n = refl
