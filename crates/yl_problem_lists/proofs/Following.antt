-- What an edit leaves of what is found elsewhere, parted.
use Rattle.std.proofs.Common.{◌≡◌, ℕ, Bool, true, false, cond, List, [], ◌∷◌, ◌++◌, map, Option, Some, None, refl, ap, sym, subst, ◌∙◌, arith}
use Rattle.std.specs.Prelude.{◌≤◌, ◌&&◌, ◌||◌, not, IfSome, IsSome}
use Rattle.std.specs.List.{AllByRecursion, filter}
use Rattle.std.proofs.lemmas.List.Elements.{filter-append}
use Rattle.yl_report.specs.Report.{ProblemValue, is_syntax}
use Rattle.yl_problem_lists.specs.Changes.{PatchValue, moved, patched, patched_lines, shown_below, suppressed_below}
use Rattle.yl_problem_lists.specs.Following.{Follows, FollowsBelow, IsJudgedAgain, found_after}
use Rattle.yl_problem_lists.specs.Order.{IsInOrder, comes_before, merged, put_in}
use Rattle.yl_problem_lists.specs.Showing.{is_indentation}
use Rattle.yl_problem_lists.specs.Parts.{PartsValue, above, behind, is_no_fault, is_upto, judged_again, parted, shifted, stays_judged, with_fault, without_fault}
use Rattle.yl_problem_lists.proofs.Merged.{merged_parts}
use Rattle.std.proofs.lemmas.Bool.{le-leb, leb-true}
use Rattle.yl_text.proofs.Every.{all_then}
use Rattle.yl_problem_lists.proofs.InOrder.{passing}
use Rattle.yl_problem_lists.proofs.Ordered.{above_filter, above_is, behind_filter, behind_is, filter_all, filter_same, filter_swap, order_filter}

filter_map_shift : (s : ProblemValue → ProblemValue) (f g : ProblemValue → Bool) (ps : List ProblemValue) → AllByRecursion (λ q. f (s q) ≡ g q) ps → filter f (map s ps) ≡ map s (filter g ps)
filter_map_shift s f g [] h = refl
filter_map_shift s f g (p ∷ ps) h = ap (λ b. cond b (s p ∷ filter f (map s ps)) (filter f (map s ps))) h.0 ∙ at (g p) (filter_map_shift s f g ps h.1)
  where
    at : (b : Bool) → filter f (map s ps) ≡ map s (filter g ps) → cond b (s p ∷ filter f (map s ps)) (filter f (map s ps)) ≡ map s (cond b (p ∷ filter g ps) (filter g ps))
    at true e = ap (λ qs. s p ∷ qs) e
    at false e = e

-- of the three parts: those above, the new ones, those below
three : (f : ProblemValue → Bool) (xs ys zs : List ProblemValue) → filter f (xs ++ (ys ++ zs)) ≡ filter f xs ++ (filter f ys ++ filter f zs)
three f xs ys zs = filter-append f xs (ys ++ zs) ∙ ap (λ ws. filter f xs ++ ws) (filter-append f ys zs)

nots : (f g : ProblemValue → Bool) (s : ProblemValue → ProblemValue) (ps : List ProblemValue) → AllByRecursion (λ q. f (s q) ≡ g q) ps → AllByRecursion (λ q. not (f (s q)) ≡ not (g q)) ps
nots f g s ps h = all_then (λ q. f (s q) ≡ g q) (λ q. not (f (s q)) ≡ not (g q)) ps (λ q e. ap not e) h

behind_in_order : (n : ℕ) (ps : List ProblemValue) → IsInOrder ps → IsInOrder (behind n ps)
behind_in_order n ps s = rw (behind_is n ps s) (order_filter (λ q. not (is_upto n q)) ps s)

-- both lists, merged, are all that was found behind the lines
both : (was : ProblemValue → Bool) (n : ℕ) (found : List ProblemValue) → IsInOrder found → merged (behind n (filter was found)) (behind n (filter (λ q. not (was q)) found)) ≡ behind n found
both was n found s =
    ap (λ qs. merged qs (behind n (filter (λ q. not (was q)) found))) (behind_filter n was found s)
    ∙ ap (λ qs. merged (filter was (behind n found)) qs) (behind_filter n (λ q. not (was q)) found s)
    ∙ merged_parts was (behind n found) (behind_in_order n found s)

-- those below that are shown, and those that are not
shown_follow : (below : Option (ProblemValue → Bool)) (now was : ProblemValue → Bool) (p : PatchValue) (found : List ProblemValue) → IsInOrder found → FollowsBelow below now was p found
    → filter now (moved p found) ≡ shown_below below p (parted was found)
shown_follow None now was p found s h =
    filter_map_shift (shifted p.old_end p.new_end) now was (behind p.old_end found) h ∙ ap (map (shifted p.old_end p.new_end)) (sym (behind_filter p.old_end was found s))
shown_follow (Some below) now was p found s h =
    sym (filter_same below now (moved p found) h) ∙ ap (λ qs. filter below (map (shifted p.old_end p.new_end) qs)) (sym (both was p.old_end found s))

suppressed_follow : (below : Option (ProblemValue → Bool)) (now was : ProblemValue → Bool) (p : PatchValue) (found : List ProblemValue) → IsInOrder found → FollowsBelow below now was p found
    → filter (λ q. not (now q)) (moved p found) ≡ suppressed_below below p (parted was found)
suppressed_follow None now was p found s h =
    filter_map_shift (shifted p.old_end p.new_end) (λ q. not (now q)) (λ q. not (was q)) (behind p.old_end found) (nots now was (shifted p.old_end p.new_end) (behind p.old_end found) h)
    ∙ ap (map (shifted p.old_end p.new_end)) (sym (behind_filter p.old_end (λ q. not (was q)) found s))
suppressed_follow (Some below) now was p found s h =
    sym (filter_same (λ q. not (below q)) (λ q. not (now q)) (moved p found) (nots below now (λ q. q) (moved p found) h))
    ∙ ap (λ qs. filter (λ q. not (below q)) (map (shifted p.old_end p.new_end) qs)) (sym (both was p.old_end found s))

-- one of the two lists
part_follows : (f g : ProblemValue → Bool) (found new given after : List ProblemValue) (p : PatchValue) → IsInOrder found → given ≡ filter f new → AllByRecursion (λ q. f q ≡ g q) (above p.first found) → filter f (moved p found) ≡ after
    → filter f (found_after p new found) ≡ above p.first (filter g found) ++ (given ++ after)
part_follows f g found new given after p s e a b =
    three f (above p.first found) new (moved p found)
    ∙ (ap (λ xs. xs ++ (filter f new ++ filter f (moved p found))) (filter_same f g (above p.first found) a ∙ sym (above_filter p.first g found s))
    ∙ (ap (λ ys. above p.first (filter g found) ++ (ys ++ filter f (moved p found))) (sym e) ∙ ap (λ zs. above p.first (filter g found) ++ (given ++ zs)) b))

-- both lists, where what was found stays
lines_follow : (now was : ProblemValue → Bool) (found new : List ProblemValue) (p : PatchValue) → IsInOrder found → p.shown ≡ filter now new → p.suppressed ≡ filter (λ q. not (now q)) new
    → AllByRecursion (λ q. now q ≡ was q) (above p.first found) → FollowsBelow p.below now was p found → parted now (found_after p new found) ≡ patched_lines p (parted was found)
lines_follow now was found new p order is_shown is_suppressed above_same below =
    let shown = part_follows now was found new p.shown (shown_below p.below p (parted was found)) p order is_shown above_same (shown_follow p.below now was p found order below) in
    let suppressed = part_follows (λ q. not (now q)) (λ q. not (was q)) found new p.suppressed (suppressed_below p.below p (parted was found)) p order is_suppressed (nots now was (λ q. q) (above p.first found) above_same)
    (suppressed_follow p.below now was p found order below) in
    λ i. record { shown = shown i; suppressed = suppressed i }

-- ---- indentation that is judged anew

module _ (was : ProblemValue → Bool) (line : ℕ) (found all : List ProblemValue) where
  abbrev stays : ProblemValue → Bool
  stays = stays_judged line

  abbrev is_gone : ProblemValue → Bool
  is_gone q = not (stays q)

  -- it was shown and stays
  abbrev still : ProblemValue → Bool
  still q = stays q && was q

  stays_and : (q : ProblemValue) → stays q ≡ true → still q ≡ was q
  stays_and q e = ap (λ b. b && was q) e

  -- of what stays
  kept : (f : ProblemValue → Bool) → filter stays all ≡ filter stays found → filter stays (filter f all) ≡ filter stays (filter f found)
  kept f same = filter_swap stays f all ∙ (ap (filter f) same ∙ filter_swap f stays found)

  both_tests : (g f : ProblemValue → Bool) (ps : List ProblemValue) → filter (λ q. g q && f q) ps ≡ filter g (filter f ps)
  both_tests g f [] = refl
  both_tests g f (p ∷ ps) = at (g p) (f p) refl (both_tests g f ps)
    where
      at : (a b : Bool) → g p ≡ a → filter (λ q. g q && f q) ps ≡ filter g (filter f ps) → cond (a && b) (p ∷ filter (λ q. g q && f q) ps) (filter (λ q. g q && f q) ps) ≡ filter g (cond b (p ∷ filter f ps) (filter f ps))
      at true true e h = ap (λ qs. p ∷ qs) h ∙ sym (ap (λ c. cond c (p ∷ filter g (filter f ps)) (filter g (filter f ps))) e)
      at true false e h = h
      at false true e h = h ∙ sym (ap (λ c. cond c (p ∷ filter g (filter f ps)) (filter g (filter f ps))) e)
      at false false e h = h

  shown_again : filter stays all ≡ filter stays found → filter still all ≡ filter stays (filter was found)
  shown_again same = both_tests stays was all ∙ kept was same

  same_where : (q : ProblemValue) → stays q ≡ true → not (still q) ≡ not (was q)
  same_where q e = ap not (stays_and q e)

  gone_where : (q : ProblemValue) → is_gone q ≡ true → not (still q) ≡ true
  gone_where q e = at (stays q) refl
    where
      at : (b : Bool) → stays q ≡ b → not (b && was q) ≡ true
      at true h = absurd (let wrong : true ≡ false = sym e ∙ ap not h in cc)
      at false h = refl

  suppressed_again : (new : List ProblemValue) → IsInOrder all → filter stays all ≡ filter stays found → new ≡ filter is_gone all
      → filter (λ q. not (still q)) all ≡ merged (filter stays (filter (λ q. not (was q)) found)) new
  suppressed_again new order same is =
      let out = filter (λ q. not (still q)) all in
      let front : filter stays out ≡ filter stays (filter (λ q. not (was q)) found) =
      filter_swap stays (λ q. not (still q)) all
      ∙ (filter_same (λ q. not (still q)) (λ q. not (was q)) (filter stays all) (all_then (λ q. stays q ≡ true) (λ q. not (still q) ≡ not (was q)) (filter stays all) same_where (passing stays all))
      ∙ (filter_swap (λ q. not (was q)) stays all ∙ kept (λ q. not (was q)) same)) in
      let back : filter is_gone out ≡ new =
      filter_swap is_gone (λ q. not (still q)) all
      ∙ (filter_all (λ q. not (still q)) (filter is_gone all) (all_then (λ q. is_gone q ≡ true) (λ q. not (still q) ≡ true) (filter is_gone all) gone_where (passing is_gone all)) ∙ sym is) in
      sym (merged_parts stays out (order_filter (λ q. not (still q)) all order)) ∙ (ap (λ qs. merged qs (filter is_gone out)) front ∙ ap (merged (filter stays (filter (λ q. not (was q)) found))) back)

  judged : (new : List ProblemValue) → IsInOrder all → filter stays all ≡ filter stays found → new ≡ filter is_gone all → parted still all ≡ judged_again line (Some new) (parted was found)
  judged new order same is =
      let shown = shown_again same in let suppressed = suppressed_again new order same is in
      λ i. record { shown = shown i; suppressed = suppressed i }

  -- what stands in the first lines stays
  above_stays : (now : ProblemValue → Bool) (first : ℕ) → first ≤ line → IsInOrder all → AllByRecursion (λ q. now q ≡ was q) (above first all) → AllByRecursion (λ q. now q ≡ still q) (above first all)
  above_stays now first l order h =
      let there : AllByRecursion (λ q. stays q ≡ true) (above first all) =
      subst (λ (qs : List ProblemValue). AllByRecursion (λ q. stays q ≡ true) qs) (sym (above_is first all order))
      (all_then (λ q. is_upto first q ≡ true) (λ q. stays q ≡ true) (filter (is_upto first) all) (λ q e. ap (λ b. b || not (is_indentation q.rule)) (le-leb q.line line (omega (arith, leb-true q.line first e, l)))) (passing (is_upto first) all)) in
      with_both (above first all) there h
    where
      with_both : (qs : List ProblemValue) → AllByRecursion (λ q. stays q ≡ true) qs → AllByRecursion (λ q. now q ≡ was q) qs → AllByRecursion (λ q. now q ≡ still q) qs
      with_both [] a b = tt
      with_both (q ∷ qs) a b = (b.0 ∙ sym (stays_and q a.0), with_both qs a.1 b.1)

-- where what stands behind the lines is parted anew, it is all one where it stood
below_any : (below : Option (ProblemValue → Bool)) (now was other : ProblemValue → Bool) (p : PatchValue) (all : List ProblemValue) → IsSome below → FollowsBelow below now was p all → FollowsBelow below now other p all
below_any None now was other p all some h = absurd (cc)
below_any (Some f) now was other p all some h = h

follow_by : (indentation : Option (List ProblemValue)) (now was : ProblemValue → Bool) (found all new : List ProblemValue) (p : PatchValue) → IsInOrder found → p.first ≤ p.old_end → IsJudgedAgain p.old_end indentation found all
    → (IsSome indentation → IsSome p.below) → p.shown ≡ filter now new → p.suppressed ≡ filter (λ q. not (now q)) new → AllByRecursion (λ q. now q ≡ was q) (above p.first all) → FollowsBelow p.below now was p all
    → parted now (found_after p new all) ≡ patched_lines p (judged_again p.old_end indentation (parted was found))
follow_by None now was found all new p order lines same some shown suppressed above_same below =
    let in_order = subst (λ (qs : List ProblemValue). IsInOrder qs) (sym same) order in
    lines_follow now was all new p in_order shown suppressed above_same below ∙ ap (λ (qs : List ProblemValue). patched_lines p (parted was qs)) same
follow_by (Some again) now was found all new p order lines same some shown suppressed above_same below =
    let still_shown = still was p.old_end found all in
    lines_follow now still_shown all new p same.0 shown suppressed (above_stays was p.old_end found all now p.first lines same.0 above_same) (below_any p.below now was still_shown p all (some refl) below)
    ∙ ap (patched_lines p) (judged was p.old_end found all again same.0 same.1 same.2)

pub parts_follow : (now was : ProblemValue → Bool) (found all new : List ProblemValue) (p : PatchValue) → Follows now was found all new p → parted now (found_after p new all) ≡ patched p (parted was found)
parts_follow now was found all new p h = follow_by p.indentation now was found all new p h.in_order h.lines h.judged h.told h.shown h.suppressed h.above h.below

-- ---- the text's fault

goes : (b : Bool) (f : ProblemValue → Bool) (p q : ProblemValue) (rest behind : List ProblemValue) → f p ≡ false → filter f behind ≡ filter f rest → filter f (cond b (q ∷ behind) (p ∷ q ∷ rest)) ≡ cond (f q) (q ∷ filter f rest) (filter f rest)
goes true f p q rest behind e h = ap (λ qs. cond (f q) (q ∷ qs) qs) h
goes false f p q rest behind e h = ap (λ b. cond b (p ∷ cond (f q) (q ∷ filter f rest) (filter f rest)) (cond (f q) (q ∷ filter f rest) (filter f rest))) e

filter_put_in : (f : ProblemValue → Bool) (p : ProblemValue) (ps : List ProblemValue) → f p ≡ false → filter f (put_in p ps) ≡ filter f ps
filter_put_in f p [] e = ap (λ b. cond b (p ∷ []) []) e
filter_put_in f p (q ∷ qs) e = goes (comes_before q p) f p q qs (put_in p qs) e (filter_put_in f p qs e)

pub fault_goes : (fault : Option ProblemValue) (ps : PartsValue) → filter is_no_fault ps.shown ≡ ps.shown → IfSome fault (λ p. is_syntax p.rule ≡ true) → without_fault (with_fault fault ps) ≡ ps
fault_goes None ps e h = λ i. record { shown = e i; suppressed = ps.suppressed }
fault_goes (Some p) ps e h = let gone = filter_put_in is_no_fault p ps.shown (ap not h) ∙ e in λ i. record { shown = gone i; suppressed = ps.suppressed }
