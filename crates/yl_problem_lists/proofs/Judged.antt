-- Indentation that is judged anew among what was found.
use Rattle.std.proofs.Common.{◌≡◌, ℕ, ◌≤◌, Bool, true, false, cond, List, [], ◌∷◌, ◌++◌, map, Option, Some, None, refl, ap, sym, subst, ◌∙◌, arith, append-nil}
use Rattle.std.specs.Prelude.{◌||◌, not, IfSome, Vec, nat_le, reverse}
use Rattle.std.specs.Option.{option_map}
use Rattle.std.specs.List.{AllByRecursion, filter, prefix_len}
use Rattle.std.specs.declared.cmp.Ordering.TheVariants.{Less, Equal}
use Rattle.std.proofs.lemmas.Bool.{le-leb, leb-false, leb-true}
use Rattle.std.proofs.lemmas.List.Elements.{filter-append}
use Rattle.yl_text.proofs.Every.{all_filter, all_then}
use Rattle.yl_text.specs.Finding.{FindingValue}
use Rattle.yl_report.specs.Report.{ProblemValue}
use Rattle.yl_problem_lists.specs.Following.{IsJudgedAgain}
use Rattle.yl_problem_lists.specs.Order.{IsInOrder, merged, problem_order}
use Rattle.yl_problem_lists.specs.Parts.{IsLow, PartsValue, above, behind, is_upto, judged_again, shifted, stays_judged}
use Rattle.yl_problem_lists.specs.Popped.{IsTaken}
use Rattle.yl_problem_lists.specs.Rooms.{AreOrdered, IsIndentation}
use Rattle.yl_problem_lists.specs.Showing.{is_indentation}
use Rattle.yl_problem_lists.proofs.Anew.{given_back}
use Rattle.yl_problem_lists.proofs.InOrder.{IsApart, all_merged, apart, merged_in_order, passing}
use Rattle.yl_problem_lists.proofs.Lines.{part, same_problems}
use Rattle.yl_problem_lists.proofs.Merged.{merged_above}
use Rattle.yl_problem_lists.proofs.Ordered.{above_is, all_behind, behind_is, filter_all, filter_none, filter_same, less_line, order_both, order_filter, order_first}

module _ (n : ℕ) (ps new : List ProblemValue) (order : IsInOrder ps) (is : IsIndentation n new) where
  in_front : AllByRecursion (λ p. is_upto n p ≡ true) (above n ps)
  in_front = subst (λ (qs : List ProblemValue). AllByRecursion (λ p. is_upto n p ≡ true) qs) (sym (above_is n ps order)) (passing (is_upto n) ps)

  new_behind : behind n new ≡ new
  new_behind = behind_is n new is.in_order ∙ filter_all (λ q. not (is_upto n q)) new (all_then (λ q. is_upto n q ≡ false) (λ q. not (is_upto n q) ≡ true) new (λ q e. ap not e) is.behind)

  whole : above n ps ++ behind n ps ≡ ps
  whole = part (prefix_len (is_upto n) ps) ps

  before : (p : ProblemValue) → is_upto n p ≡ true → AllByRecursion (λ r. problem_order p r ≡ Less) new
  before p e =
      all_then (λ r. is_upto n r ≡ false) (λ r. problem_order p r ≡ Less) new (λ r d. less_line p r (omega (arith, leb-true p.line n e, leb-false r.line n d))) is.behind

  -- what stood behind the lines, merged with the new ones, comes behind the others
  pub put_behind : above n ps ++ merged (behind n ps) new ≡ merged ps new
  put_behind =
      sym (merged_above (above n ps) (behind n ps) new (subst (λ (qs : List ProblemValue). IsInOrder qs) (sym whole) order)
      (all_then (λ p. is_upto n p ≡ true) (λ p. AllByRecursion (λ r. problem_order p r ≡ Less) new) (above n ps) before in_front))
      ∙ ap (λ qs. merged qs new) whole

  -- taken out and put in again
  pub put_again : (ts vs spare out : List ProblemValue) → IsTaken n n ps new ts vs spare → behind n ts ≡ [] → behind n vs ≡ [] → out ≡ ts ++ reverse spare → out ≡ merged ps new
  put_again ts vs spare out taken none none' gives =
      let stay : ts ≡ above n ps =
      sym (part (prefix_len (is_upto n) ts) ts) ∙ (ap (λ qs. above n ts ++ qs) none ∙ (append-nil (above n ts) ∙ taken.shown_above n (omega arith))) in
      let back : reverse spare ≡ merged (behind n ps) new =
      given_back n n ps new ts vs spare taken none none'
      ∙ (ap (λ qs. map (shifted n n) (merged (behind n ps) qs)) new_behind
      ∙ same_problems n (merged (behind n ps) new) (all_merged (λ q. is_upto n q ≡ false) (behind n ps) new (all_behind n ps order) is.behind)) in
      gives ∙ (ap (λ qs. qs ++ reverse spare) stay ∙ (ap (λ qs. above n ps ++ qs) back ∙ put_behind))

-- both lists are in order then
pub judged_ordered : (line : ℕ) (o : Option (List ProblemValue)) (ps : PartsValue) → AreOrdered ps → IfSome o (λ new. IsIndentation line new) → AreOrdered (judged_again line o ps)
judged_ordered line None ps h is = h
judged_ordered line (Some new) ps h is =
    let stays = filter (stays_judged line) ps.suppressed in
    let told_apart : (p : ProblemValue) → stays_judged line p ≡ true → IsApart p new =
    λ p e. all_then (λ q. stays_judged line q ≡ false) (λ q. problem_order p q ≡ Equal → ⊥) new (λ q d. apart (λ (f : FindingValue). nat_le f.line line || not (is_indentation f.rule)) p q e d) is.apart in record {
      shown_in_order = order_filter (stays_judged line) ps.shown h.shown_in_order;
      suppressed_in_order =
          merged_in_order stays new (all_then (λ p. stays_judged line p ≡ true) (λ p. IsApart p new) stays told_apart (passing (stays_judged line) ps.suppressed))
          (order_filter (stays_judged line) ps.suppressed h.suppressed_in_order) is.in_order;
      shown_low = all_filter IsLow (stays_judged line) ps.shown h.shown_low;
      suppressed_low = all_merged IsLow stays new (all_filter IsLow (stays_judged line) ps.suppressed h.suppressed_low) is.low;
    }

-- ---- where what stands behind the lines differs in its indentation alone

abbrev pub is_other : ProblemValue → Bool
is_other p = not (is_indentation p.rule)

module _ (line : ℕ) (front one other : List ProblemValue) (above_line : AllByRecursion (λ p. is_upto line p ≡ true) front)
    (behind_one : AllByRecursion (λ p. is_upto line p ≡ false) one) (behind_other : AllByRecursion (λ p. is_upto line p ≡ false) other) where
  abbrev stays_there : ProblemValue → Bool
  stays_there = stays_judged line

  stays_behind : (ps : List ProblemValue) → AllByRecursion (λ p. is_upto line p ≡ false) ps → filter stays_there ps ≡ filter is_other ps
  stays_behind ps h = filter_same stays_there is_other ps (all_then (λ p. is_upto line p ≡ false) (λ p. stays_there p ≡ is_other p) ps (λ p e. ap (λ b. b || is_other p) e) h)

  goes_behind : (ps : List ProblemValue) → AllByRecursion (λ p. is_upto line p ≡ false) ps → filter (λ p. not (stays_there p)) ps ≡ filter (λ p. not (is_other p)) ps
  goes_behind ps h =
      filter_same (λ p. not (stays_there p)) (λ p. not (is_other p)) ps (all_then (λ p. is_upto line p ≡ false) (λ p. not (stays_there p) ≡ not (is_other p)) ps (λ p e. ap (λ b. not (b || is_other p)) e) h)

  none_goes : filter (λ p. not (stays_there p)) front ≡ []
  none_goes = filter_none (λ p. not (stays_there p)) front (all_then (λ p. is_upto line p ≡ true) (λ p. not (stays_there p) ≡ false) front (λ p e. ap (λ b. not (b || is_other p)) e) above_line)

  -- the others are the same, and these are the indentation there
  pub judged_behind : (new : List ProblemValue) → IsInOrder (front ++ one) → IsInOrder other → filter is_other other ≡ filter is_other one → new ≡ filter (λ p. not (is_other p)) other
      → IsJudgedAgain line (Some new) (front ++ one) (front ++ other)
  judged_behind new order order' same is = (
    order_both line front other above_line behind_other (order_first front one order) order',
    filter-append stays_there front other
        ∙ (ap (λ ps. filter stays_there front ++ ps) (stays_behind other behind_other ∙ (same ∙ sym (stays_behind one behind_one))) ∙ sym (filter-append stays_there front one)),
    is ∙ (sym (goes_behind other behind_other)
        ∙ (ap (λ ps. ps ++ filter (λ p. not (stays_there p)) other) (sym none_goes) ∙ sym (filter-append (λ p. not (stays_there p)) front other))),
  )

-- what stands above is the same
module _ (line first : ℕ) (l : first ≤ line) where
  upto_stays : (ps : List ProblemValue) → filter (is_upto first) (filter (stays_judged line) ps) ≡ filter (is_upto first) ps
  upto_stays [] = refl
  upto_stays (p ∷ ps) = at (is_upto first p) (stays_judged line p) refl refl (upto_stays ps)
    where
      stays_upto : is_upto first p ≡ true → stays_judged line p ≡ true
      stays_upto e = ap (λ b. b || not (is_indentation p.rule)) (le-leb p.line line (omega (arith, leb-true p.line first e, l)))

      at : (a b : Bool) → is_upto first p ≡ a → stays_judged line p ≡ b → filter (is_upto first) (filter (stays_judged line) ps) ≡ filter (is_upto first) ps
          → filter (is_upto first) (cond b (p ∷ filter (stays_judged line) ps) (filter (stays_judged line) ps)) ≡ cond a (p ∷ filter (is_upto first) ps) (filter (is_upto first) ps)
      at true true e d h = ap (λ a. cond a (p ∷ filter (is_upto first) (filter (stays_judged line) ps)) (filter (is_upto first) (filter (stays_judged line) ps))) e ∙ ap (λ qs. p ∷ qs) h
      at true false e d h = absurd (let wrong : true ≡ false = sym (stays_upto e) ∙ d in cc)
      at false true e d h = ap (λ a. cond a (p ∷ filter (is_upto first) (filter (stays_judged line) ps)) (filter (is_upto first) (filter (stays_judged line) ps))) e ∙ h
      at false false e d h = h

  pub judged_above : (o : Option (List ProblemValue)) (found all : List ProblemValue) → IsInOrder found → IsJudgedAgain line o found all → above first all ≡ above first found
  judged_above None found all order same = ap (above first) same
  judged_above (Some new) found all order judged =
      above_is first all judged.0 ∙ (sym (upto_stays all) ∙ (ap (filter (is_upto first)) judged.1 ∙ (upto_stays found ∙ sym (above_is first found order))))

pub judged_order : (line : ℕ) (o : Option (List ProblemValue)) (found all : List ProblemValue) → IsInOrder found → IsJudgedAgain line o found all → IsInOrder all
judged_order line None found all order same = subst (λ (ps : List ProblemValue). IsInOrder ps) (sym same) order
judged_order line (Some new) found all order judged = judged.0

-- what holds of the items, where they are there
pub items_so : {A : Type 0} (P : List ProblemValue → Type 0) (o : Option (Vec ProblemValue A)) → IfSome o (λ v. P v.items) → IfSome (option_map (λ v. v.items) o) P
items_so P None h = tt
items_so P (Some v) h = h
