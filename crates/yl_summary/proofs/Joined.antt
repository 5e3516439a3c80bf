-- Overviews of some sections each, one after another.
use Rattle.std.proofs.Common.{◌≡◌, ℕ, suc, ◌+◌, ◌-◌, ◌<◌, ◌≤◌, ◌^◌, List, [], ◌∷◌, ◌++◌, length, take, drop, get_or, refl, ap, sym, subst, ◌∙◌, arith, rules, add-one, append_assoc, length-append}
use Rattle.std.specs.List.{splice}
use Rattle.std.proofs.Math.Seq.{drop-cons}
use Rattle.std.proofs.lemmas.List.{same_lists, places, get_or_default, take_more, length-take, length-drop, take_all, take-append-drop}
use Rattle.yl_sections.specs.Kept.{KeptValue, rows_kept}
use Rattle.yl_sections.specs.Places.{IsAt}
use Rattle.yl_sections.proofs.KeptRows.{rows_front}
use Rattle.yl_indentation.specs.Measures.{empty_measure}
use Rattle.yl_summary.specs.Overview.{AreFew, AreOverviews, IsBorder, IsOverviewOf}
use Rattle.yl_summary.specs.declared.overview.Overview.{Overview}
use Rattle.yl_summary.proofs.Walks.{rows_both}
use Rattle.yl_summary.proofs.Whole.{Sum, few_back, few_front, three_parts, two_parts}

-- no more sections than there are
sections_within : (ks : List KeptValue) (o : Overview) → IsOverviewOf (take o.sections ks) o → o.sections ≤ length ks
sections_within ks o h = omega (arith, h.sections, length-take o.sections ks)

-- of both parts
pub overviews_both : (ks ls : List KeptValue) (os ps : List Overview) → AreOverviews ks os → AreOverviews ls ps → AreOverviews (ks ++ ls) (os ++ ps)
overviews_both ks ls [] ps h g = subst (λ (xs : List KeptValue). AreOverviews (xs ++ ls) ps) (sym h) g
overviews_both ks ls (o ∷ os) ps h g =
    let l = sections_within ks o h.0 in
    let front : take o.sections (ks ++ ls) ≡ take o.sections ks = same_lists _ _ (search (rules, places)) (λ k d q. grind (arith, places)) in
    let back : drop o.sections (ks ++ ls) ≡ drop o.sections ks ++ ls = same_lists _ _ (search (rules, places)) (λ k d q. grind (arith, places)) in (
      subst (λ (xs : List KeptValue). IsOverviewOf xs o) (sym front) h.0,
      subst (λ (xs : List KeptValue). AreOverviews xs (os ++ ps)) (sym back) (overviews_both (drop o.sections ks) ls os ps h.1 g),
    )

-- one more
pub overviews_push : (ks ls : List KeptValue) (os : List Overview) (o : Overview) → AreOverviews ks os → IsOverviewOf ls o → AreOverviews (ks ++ ls) (os ++ o ∷ [])
overviews_push ks ls os o h g =
    let count = g.sections in
    let front : take o.sections ls ≡ ls = same_lists _ _ (search (rules, places)) (λ k d q. grind (arith, places)) in
    let back : drop o.sections ls ≡ [] = same_lists _ _ (search (rules, places)) (λ k d q. grind (arith, places)) in
    overviews_both ks ls os (o ∷ []) h (subst (λ (xs : List KeptValue). IsOverviewOf xs o) (sym front) g, back)

-- the next of some
pub next_of : (os : List Overview) (i : ℕ) (o : Overview) → i < length os → o ≡ get_or os i o → drop i os ≡ o ∷ drop (i + 1) os
next_of os i o l e = rw (add-one i) (drop-cons os i o l ∙ ap (λ (x : Overview). x ∷ drop (suc i) os) (sym e))

module _ (ks : List KeptValue) (os : List Overview) (i n : ℕ) (o : Overview) (l : i < length os) (is : o ≡ get_or os i o) (below : AreOverviews (drop n ks) (drop i os)) where
  pub here : IsOverviewOf (take o.sections (drop n ks)) o × AreOverviews (drop o.sections (drop n ks)) (drop (i + 1) os)
  here = subst (λ (xs : List Overview). AreOverviews (drop n ks) xs) (next_of os i o l is) below

  pub below_next : (m : ℕ) → m ≡ n + o.sections → AreOverviews (drop m ks) (drop (i + 1) os)
  below_next m e =
      let same : drop o.sections (drop n ks) ≡ drop m ks = same_lists _ _ (search (rules, places)) (λ k d q. grind (arith, places)) in
      subst (λ (xs : List KeptValue). AreOverviews xs (drop (i + 1) os)) same here.1

  pub within_next : n ≤ length ks → n + o.sections ≤ length ks
  within_next h = omega (arith, h, here.0.sections, length-take o.sections (drop n ks), length-drop n ks)

  pub taken_next : (m : ℕ) → m ≡ n + o.sections → take n ks ++ take o.sections (drop n ks) ≡ take m ks
  taken_next m e = same_lists _ _ (search (rules, places)) (λ k d q. grind (arith, places))

-- a border further
pub border_next : (ks : List KeptValue) (os : List Overview) (n i m : ℕ) (o : Overview) → i < length os → o ≡ get_or os i o → IsBorder ks os n i → m ≡ n + o.sections → IsBorder ks os m (i + 1)
border_next ks os n i m o l is border e = record {
  within = let w = within_next ks os i n o l is border.below border.within in omega (arith, w, e);
  count = omega (arith, l);
  above =
      subst (λ (xs : List Overview). AreOverviews (take m ks) xs) (sym (take_more os i o l ∙ ap (λ (x : Overview). take i os ++ x ∷ []) (sym is)))
      (subst (λ (xs : List KeptValue). AreOverviews xs (take i os ++ o ∷ [])) (taken_next ks os i n o l is border.below m e)
      (overviews_push (take n ks) (take o.sections (drop n ks)) (take i os) o border.above (here ks os i n o l is border.below).0));
  below = below_next ks os i n o l is border.below m e;
}

-- the last one
pub none_below : (ks : List KeptValue) (os : List Overview) (n i : ℕ) → length os ≤ i → AreOverviews (drop n ks) (drop i os) → length ks ≤ n
none_below ks os n i l h =
    let none : drop i os ≡ [] = same_lists _ _ (search (rules, places)) (λ k d q. grind (arith, places)) in
    let empty : drop n ks ≡ [] = subst (λ (xs : List Overview). AreOverviews (drop n ks) xs) none h in
    let count = ap (λ (xs : List KeptValue). length xs) empty in grind (arith, places)

-- ---- as the code lends them

-- what a list lends where it has nothing
abbrev nothing : Overview
nothing = record { sections = 0; rows = 0; sound = 0; row = 0; whole = empty_measure; silencing = record { from = 0; row = 0; end = 0 } }

abbrev pub lent : List Overview → ℕ → Overview
lent os i = get_or os i nothing

pub lent_is : (os : List Overview) (i : ℕ) → i < length os → lent os i ≡ get_or os i (lent os i)
lent_is os i l = get_or_default os i nothing (lent os i) l

-- the overview of all before one, and then of that one too
pub all_next : (ks : List KeptValue) (os : List Overview) (i : ℕ) (all next : Overview) → i < length os → AreFew ks → IsOverviewOf (take all.sections ks) all × AreOverviews (drop all.sections ks) (drop i os)
    → ((xs ys : List KeptValue) → AreFew (xs ++ ys) → IsOverviewOf xs all → IsOverviewOf ys (lent os i) → IsOverviewOf (xs ++ ys) next) → IsOverviewOf (take next.sections ks) next × AreOverviews (drop next.sections ks) (drop (i + 1) os)
all_next ks os i all next l few known both =
    let o = lent os i in
    let n = all.sections in
    let is = lent_is os i l in
    let m = n + o.sections in
    let one = here ks os i n o l is known.1 in
    let within = within_next ks os i n o l is known.1 (sections_within ks all known.0) in
    let same = taken_next ks os i n o l is known.1 m refl in
    let sum : IsOverviewOf (take m ks) next =
    subst (λ (xs : List KeptValue). IsOverviewOf xs next) same (both (take n ks) (take o.sections (drop n ks)) (subst (λ (xs : List KeptValue). AreFew xs) (sym same) (few_front ks m few)) known.0 one.0) in
    let count : next.sections ≡ m = omega (arith, sum.sections, length-take m ks, within) in (
      subst (λ j. IsOverviewOf (take j ks) next) (sym count) sum,
      below_next ks os i n o l is known.1 next.sections count,
    )

pub all_end : (ks : List KeptValue) (os : List Overview) (i : ℕ) (all : Overview) → length os ≤ i → IsOverviewOf (take all.sections ks) all × AreOverviews (drop all.sections ks) (drop i os) → IsOverviewOf ks all
all_end ks os i all l known = subst (λ (xs : List KeptValue). IsOverviewOf xs all) (take_all all.sections ks (none_below ks os all.sections i l known.1)) known.0

-- a place further
pub place_next : (ks : List KeptValue) (os : List Overview) (i section row s r : ℕ) → i < length os → AreFew ks → IsAt ks (record { section = section; row = row }) → AreOverviews (drop section ks) (drop i os)
    → (section + (lent os i).sections ≤ length ks → row + (lent os i).rows ≤ rows_kept ks → (s ≡ section + (lent os i).sections) × (r ≡ row + (lent os i).rows))
    → IsAt ks (record { section = s; row = r }) × AreOverviews (drop s ks) (drop (i + 1) os)
place_next ks os i section row s r l few at below is =
    let o = lent os i in
    let item = lent_is os i l in
    let m = section + o.sections in
    let one = here ks os i section o l item below in
    let within = within_next ks os i section o l item below at.section in
    let same = taken_next ks os i section o l item below m refl in
    let lines : rows_kept (take m ks) ≡ row + o.rows = omega (arith, ap rows_kept same, rows_both (take section ks) (take o.sections (drop section ks)), at.row, one.0.rows) in
    let e = is within (omega (arith, lines, rows_front ks m)) in (
      record { section = omega (arith, e.0, within); row = omega (arith, e.1, lines, ap (λ n. rows_kept (take n ks)) e.0) },
      below_next ks os i section o l item below s e.0,
    )

-- overviews of the sections before one, and then of those up to another
pub upto_next : (ks : List KeptValue) (at next : ℕ) (os new : List Overview) (o : Overview) → at ≤ next → AreOverviews (take at ks) os → IsOverviewOf (take (next - at) (drop at ks)) o → new ≡ os ++ o ∷ [] → AreOverviews (take next ks) new
upto_next ks at next os new o l above one is =
    let same : take at ks ++ take (next - at) (drop at ks) ≡ take next ks = same_lists _ _ (search (rules, places)) (λ k d q. grind (arith, places)) in
    subst (λ (xs : List Overview). AreOverviews (take next ks) xs) (sym is) (subst (λ (xs : List KeptValue). AreOverviews xs (os ++ o ∷ [])) same (overviews_push (take at ks) (take (next - at) (drop at ks)) os o above one))

-- ---- once others are put in place of some

pub few_put : (ks ns : List KeptValue) (from end : ℕ) → AreFew (splice ks from end ns) → length ns < 2 ^ 63
few_put ks ns from end few = omega (arith, few.sections, length-append (take from ks) (ns ++ drop end ks), length-append ns (drop end ks))

module _ (ks ns : List KeptValue) (os : List Overview) (from end : ℕ) (ordered : from ≤ end) (within : end ≤ length ks) where
  -- the overviews above the edit, those made anew, and those below it
  pub overviews_put : (start first stop last until : ℕ) (put after : List Overview) → IsBorder ks os start first → IsBorder ks os stop last → start ≤ from → end ≤ stop → until + end ≡ stop + from + length ns
      → (AreOverviews (take start (splice ks from end ns)) (take first os) → AreOverviews (take until (splice ks from end ns)) put) → after ≡ put ++ drop last os → AreOverviews (splice ks from end ns) after
  overviews_put start first stop last until put after upto behind l h count made is =
      let all = splice ks from end ns in
      let front : take start all ≡ take start ks = same_lists _ _ (search (rules, places)) (λ k d q. grind (arith, places)) in
      let back : drop until all ≡ drop stop ks = same_lists _ _ (search (rules, places)) (λ k d q. grind (arith, places)) in
      let whole : take until all ++ drop until all ≡ all = take-append-drop until all in
      subst (λ (xs : List Overview). AreOverviews all xs) (sym is)
      (subst (λ (xs : List KeptValue). AreOverviews xs (put ++ drop last os)) (ap (λ (xs : List KeptValue). take until all ++ xs) (sym back) ∙ whole)
      (overviews_both (take until all) (drop stop ks) put (drop last os) (made (subst (λ (xs : List KeptValue). AreOverviews xs (take first os)) (sym front) upto.above)) behind.below))

  -- the overviews above the borders, one of what is between them, and those below
  pub survey_put : (start first stop last until : ℕ) (near : Overview) (back : List Overview) → IsBorder ks os start first → IsBorder ks os stop last → start ≤ from → end ≤ stop → until + end ≡ stop + from + length ns
      → IsOverviewOf (take (until - start) (drop start (splice ks from end ns))) near → back ≡ drop last os → AreOverviews (splice ks from end ns) (take first os ++ near ∷ back)
  survey_put start first stop last until near back upto behind l h count here is =
      let put = take first os ++ near ∷ [] in
      let ordered' : start ≤ until = omega (arith, l, h, count) in
      overviews_put start first stop last until put (take first os ++ near ∷ back) upto behind l h count (λ above. upto_next (splice ks from end ns) start until (take first os) put near ordered' above here refl)
      (ap (λ (xs : List Overview). take first os ++ near ∷ xs) is ∙ sym (append_assoc (take first os) (near ∷ []) (drop last os)))

  -- the overviews above the edit
  pub front_put : (start first : ℕ) (put : List Overview) → IsBorder ks os start first → start ≤ from → put ≡ take first os → AreOverviews (take start (splice ks from end ns)) put
  front_put start first put upto l is =
      let all = splice ks from end ns in
      let front : take start all ≡ take start ks = same_lists _ _ (search (rules, places)) (λ k d q. grind (arith, places)) in
      subst (λ (xs : List Overview). AreOverviews (take start all) xs) (sym is) (subst (λ (xs : List KeptValue). AreOverviews xs (take first os)) (sym front) upto.above)

  -- the overview of the sections between the borders
  pub near_put : (start stop : ℕ) (a b c r s : Overview) → start ≤ from → end ≤ stop → stop ≤ length ks → AreFew (splice ks from end ns) → IsOverviewOf (take (from - start) (drop start ks)) a → IsOverviewOf ns b → IsOverviewOf (take (stop - end) (drop end ks)) c
      → Sum a b r → Sum r c s → IsOverviewOf (take (stop - end + from + length ns - start) (drop start (splice ks from end ns))) s
  near_put start stop a b c r s l h w few one two three front whole =
      let all = splice ks from end ns in
      three_parts (take (from - start) (drop start ks)) ns (take (stop - end) (drop end ks)) (take (stop - end + from + length ns - start) (drop start all)) a b c r s
      (same_lists _ _ (search (rules, places)) (λ k d q. grind (arith, places))) (few_front (drop start all) (stop - end + from + length ns - start) (few_back all start few)) one two three front whole

-- ---- an overview of some sections, by overviews and a walk

-- what stands from one on
pub rest : (os : List Overview) (i : ℕ) → take (length os - i) (drop i os) ≡ drop i os
rest os i = same_lists _ _ (search (rules, places)) (λ k d q. grind (arith, places))

abbrev Whole : List Overview → Overview → Type 0
Whole os all = (ks : List KeptValue) → AreFew ks → AreOverviews ks os → IsOverviewOf ks all

pub all_upto : (ks : List KeptValue) (os : List Overview) (n from : ℕ) (all between sum : Overview) → n ≤ from → from ≤ length ks → AreFew ks → AreOverviews (take n ks) os → Whole os all → IsOverviewOf (take (from - n) (drop n ks)) between → Sum all between sum
    → IsOverviewOf (take from ks) sum
all_upto ks os n from all between sum l h few above whole some both =
    two_parts (take n ks) (take (from - n) (drop n ks)) (take from ks) all between sum (same_lists _ _ (search (rules, places)) (λ k d q. grind (arith, places))) (few_front ks from few) (whole (take n ks) (few_front ks n few) above) some both

pub all_from : (ks : List KeptValue) (os : List Overview) (n end : ℕ) (between all sum : Overview) → end ≤ n → n ≤ length ks → AreFew ks → AreOverviews (drop n ks) os → Whole os all → IsOverviewOf (take (n - end) (drop end ks)) between → Sum between all sum
    → IsOverviewOf (drop end ks) sum
all_from ks os n end between all sum l h few below whole some both =
    two_parts (take (n - end) (drop end ks)) (drop n ks) (drop end ks) between all sum (same_lists _ _ (search (rules, places)) (λ k d q. grind (arith, places))) (few_back ks end few) some (whole (drop n ks) (few_back ks n few) below) both

pub few_new : (ks ns : List KeptValue) (from end : ℕ) → AreFew (splice ks from end ns) → AreFew ns
few_new ks ns from end few = record {
  sections = few_put ks ns from end few;
  rows = omega (arith, few.rows, rows_both (take from ks) (ns ++ drop end ks), rows_both ns (drop end ks));
}
