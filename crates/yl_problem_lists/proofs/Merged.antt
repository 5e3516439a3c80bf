-- Two lists that are in order, merged.
use Rattle.std.proofs.Common.{◌≡◌, Bool, true, false, cond, List, [], ◌∷◌, ◌++◌, refl, ap, ◌∙◌}
use Rattle.std.specs.Prelude.{not}
use Rattle.std.specs.List.{AllByRecursion, filter}
use Rattle.std.specs.declared.cmp.Ordering.TheVariants.{Less}
use Rattle.yl_text.proofs.Every.{all_back, all_both, all_filter, all_front}
use Rattle.yl_report.specs.Report.{ProblemValue}
use Rattle.yl_problem_lists.specs.Order.{IsInOrder, comes_before, merged, problem_order, put_in}
use Rattle.yl_problem_lists.proofs.InOrder.{all_merged}
use Rattle.yl_problem_lists.proofs.Ordered.{less_before, not_after, order_head, order_tail}

-- ---- parted and merged

pub put_in_first : (p : ProblemValue) (ps : List ProblemValue) → AllByRecursion (λ q. problem_order p q ≡ Less) ps → put_in p ps ≡ p ∷ ps
put_in_first p [] a = refl
put_in_first p (q ∷ qs) a = ap (λ b. cond b (q ∷ put_in p qs) (p ∷ q ∷ qs)) (not_after p q a.0)

merged_first : (p : ProblemValue) (ps qs : List ProblemValue) → AllByRecursion (λ q. problem_order p q ≡ Less) ps → merged ps (p ∷ qs) ≡ p ∷ merged ps qs
merged_first p [] qs a = refl
merged_first p (o ∷ ps) qs a =
    ap (put_in o) (merged_first p ps qs a.1) ∙ ap (λ b. cond b (p ∷ put_in o (merged ps qs)) (o ∷ p ∷ merged ps qs)) (less_before p o a.0)

parted_step : (g : ProblemValue → Bool) (b : Bool) (p : ProblemValue) (ps : List ProblemValue) → AllByRecursion (λ q. problem_order p q ≡ Less) ps → merged (filter g ps) (filter (λ q. not (g q)) ps) ≡ ps
    → merged (cond b (p ∷ filter g ps) (filter g ps)) (cond (not b) (p ∷ filter (λ q. not (g q)) ps) (filter (λ q. not (g q)) ps)) ≡ p ∷ ps
parted_step g true p ps a h = ap (put_in p) h ∙ put_in_first p ps a
parted_step g false p ps a h = merged_first p (filter g ps) (filter (λ q. not (g q)) ps) (all_filter (λ q. problem_order p q ≡ Less) g ps a) ∙ ap (λ qs. p ∷ qs) h

pub merged_parts : (g : ProblemValue → Bool) (ps : List ProblemValue) → IsInOrder ps → merged (filter g ps) (filter (λ q. not (g q)) ps) ≡ ps
merged_parts g [] s = refl
merged_parts g (p ∷ ps) s = parted_step g (g p) p ps (order_head p ps s) (merged_parts g ps (order_tail p ps s))

-- those in the first lines come before all that is merged behind them
pub merged_above : (ps qs rs : List ProblemValue) → IsInOrder (ps ++ qs) → AllByRecursion (λ p. AllByRecursion (λ r. problem_order p r ≡ Less) rs) ps → merged (ps ++ qs) rs ≡ ps ++ merged qs rs
merged_above [] qs rs s a = refl
merged_above (p ∷ ps) qs rs s a =
    let order = order_head p (ps ++ qs) s in
    ap (put_in p) (merged_above ps qs rs (order_tail p (ps ++ qs) s) a.1)
    ∙ put_in_first p (ps ++ merged qs rs)
    (all_both (λ q. problem_order p q ≡ Less) ps (merged qs rs) (all_front (λ q. problem_order p q ≡ Less) ps qs order)
    (all_merged (λ q. problem_order p q ≡ Less) qs rs (all_back (λ q. problem_order p q ≡ Less) ps qs order) a.0))

-- ---- what comes last of both

put_in_last : (p : ProblemValue) (qs : List ProblemValue) → AllByRecursion (λ q. comes_before q p ≡ true) qs → put_in p qs ≡ qs ++ p ∷ []
put_in_last p [] a = refl
put_in_last p (q ∷ qs) a = ap (λ b. cond b (q ∷ put_in p qs) (p ∷ q ∷ qs)) a.0 ∙ ap (λ rs. q ∷ rs) (put_in_last p qs a.1)

put_in_front : (p q : ProblemValue) (qs : List ProblemValue) → comes_before q p ≡ false → put_in p (qs ++ q ∷ []) ≡ put_in p qs ++ q ∷ []
put_in_front p q [] e = ap (λ b. cond b (q ∷ put_in p []) (p ∷ q ∷ [])) e
put_in_front p q (r ∷ qs) e = at (comes_before r p) (put_in_front p q qs e)
  where
    at : (b : Bool) → put_in p (qs ++ q ∷ []) ≡ put_in p qs ++ q ∷ [] → cond b (r ∷ put_in p (qs ++ q ∷ [])) (p ∷ r ∷ (qs ++ q ∷ [])) ≡ cond b (r ∷ put_in p qs) (p ∷ r ∷ qs) ++ q ∷ []
    at true h = ap (λ rs. r ∷ rs) h
    at false h = refl

-- of the latter list
pub merged_last_right : (ps qs : List ProblemValue) (q : ProblemValue) → AllByRecursion (λ p. comes_before q p ≡ false) ps → merged ps (qs ++ q ∷ []) ≡ merged ps qs ++ q ∷ []
merged_last_right [] qs q a = refl
merged_last_right (p ∷ ps) qs q a = ap (put_in p) (merged_last_right ps qs q a.1) ∙ put_in_front p q (merged ps qs) a.0

-- of the former list
pub merged_last_left : (ps qs : List ProblemValue) (p : ProblemValue) → AllByRecursion (λ r. comes_before p r ≡ false) ps → AllByRecursion (λ q. comes_before q p ≡ true) qs → merged (ps ++ p ∷ []) qs ≡ merged ps qs ++ p ∷ []
merged_last_left [] qs p a b = put_in_last p qs b
merged_last_left (o ∷ ps) qs p a b = ap (put_in o) (merged_last_left ps qs p a.1 b) ∙ put_in_front o p (merged ps qs) a.0
