-- The comments of a text's first sections, gathered by their overviews.
use Rattle.std.proofs.Common.{◌≡◌, ℕ, ◌+◌, ◌-◌, ◌<◌, ◌≤◌, List, [], ◌++◌, length, map, take, drop, ap, sym, subst, ◌∙◌, arith, rules, append-nil, ⊎_elim}
use Rattle.std.specs.List.{AllByRecursion}
use Rattle.std.proofs.lemmas.Bool.{cases_lt}
use Rattle.std.proofs.lemmas.List.{same_lists, places, length-take, length-drop}
use Rattle.yl_text.proofs.Every.{all_take}
use Rattle.yl_lexeme.specs.Lexeme.{PlacedCommentValue}
use Rattle.yl_lexeme.specs.PlacedComments.{placed_comment_value}
use Rattle.yl_sections.specs.Kept.{KeptValue, rows_kept}
use Rattle.yl_lint.specs.TextReport.{comments_in_sections}
use Rattle.yl_summary.specs.Overview.{AreOverviews, IsOverviewOf, IsSilencingOf, IsSilent}
use Rattle.yl_summary.specs.declared.overview.Overview.{Overview}
use Rattle.yl_summary.specs.declared.overview.Silencing.{Silencing}
use Rattle.yl_summary.proofs.Joined.{lent, lent_is, next_of}
use Rattle.yl_summary.proofs.Walks.{rows_both}
use Rattle.yl_found.specs.Gathered.{IsGathered}
use Rattle.yl_found.specs.declared.gathered.Gathered.{Gathered}
use Rattle.yl_found.proofs.Sections.{comments_both, no_comments}
use Rattle.yl_found.proofs.SilencingSections.{comments_known}

-- ---- sections of one overview

-- none of them may silence a rule
pub none_said : (ls : List KeptValue) (n row : ℕ) → AllByRecursion IsSilent ls → comments_in_sections row (take n ls) ≡ []
none_said ls n row h = no_comments row (take n ls) (all_take IsSilent ls n h)

pub none_put : (ls : List KeptValue) (n row : ℕ) (cs : List PlacedCommentValue) → AllByRecursion IsSilent ls → cs ≡ cs ++ comments_in_sections row (take n ls)
none_put ls n row cs h = sym (ap (λ (ds : List PlacedCommentValue). cs ++ ds) (none_said ls n row h) ∙ append-nil cs)

-- those before `count`, of so many from the section `at` on
pub some_said : (ks : List KeptValue) (s : Silencing) (at n count from end row first : ℕ) → IsSilencingOf (take n (drop at ks)) s → from ≡ at + s.from → end ≤ count → end ≤ at + s.end → (end < count → end ≡ at + s.end) → first ≡ row + s.row
    → comments_in_sections first (take (end - from) (drop from ks)) ≡ comments_in_sections row (take (count - at) (take n (drop at ks)))
some_said ks s at n count from end row first known a b c d e =
    let ls = take n (drop at ks) in
    let stop = end - at in
    let few : stop ≤ n = omega (arith, c, known.within, length-take n (drop at ks)) in
    let width : end - from ≡ stop - s.from = omega (arith, a) in
    let same : take (stop - s.from) (drop (at + s.from) ks) ≡ take (stop - s.from) (drop s.from ls) = same_lists _ _ (search (rules, places)) (λ k o q. grind (arith, places)) in
    ap (comments_in_sections first) (ap (λ i. take (end - from) (drop i ks)) a ∙ (ap (λ i. take i (drop (at + s.from) ks)) width ∙ same))
    ∙ comments_known ls s (count - at) stop row first known (omega (arith, b)) (λ l. omega (arith, l, d (omega (arith, l)))) e

-- ---- one overview more

module _ (ks : List KeptValue) (at n : ℕ) (o : Overview) (is : n ≡ o.sections) (known : IsOverviewOf (take n (drop at ks)) o) where
  pub within_more : at ≤ length ks → at + n ≤ length ks
  within_more h = omega (arith, h, is, known.sections, length-take n (drop at ks), length-drop at ks)

  pub rows_more : (row next : ℕ) → row ≡ rows_kept (take at ks) → next ≡ row + o.rows → next ≡ rows_kept (take (at + n) ks)
  rows_more row next h e =
      let same : take (at + n) ks ≡ take at ks ++ take n (drop at ks) = same_lists _ _ (search (rules, places)) (λ k d q. grind (arith, places)) in
      omega (arith, h, e, known.rows, ap rows_kept same, rows_both (take at ks) (take n (drop at ks)))

pub said_more : (ks : List KeptValue) (count at n row : ℕ) (before now : List PlacedCommentValue) → row ≡ rows_kept (take at ks) → before ≡ comments_in_sections 0 (take count (take at ks))
    → now ≡ before ++ comments_in_sections row (take (count - at) (take n (drop at ks))) → now ≡ comments_in_sections 0 (take count (take (at + n) ks))
said_more ks count at n row before now h was is = is ∙ ⊎_elim some none (cases_lt at count)
  where
    some : at < count → before ++ comments_in_sections row (take (count - at) (take n (drop at ks))) ≡ comments_in_sections 0 (take count (take (at + n) ks))
    some l =
        let x = take at ks in
        let y = take (count - at) (take n (drop at ks)) in
        let front : take count (take at ks) ≡ x = same_lists _ _ (search (rules, places)) (λ k d q. grind (arith, places)) in
        let parts : take count (take (at + n) ks) ≡ x ++ y = same_lists _ _ (search (rules, places)) (λ k d q. grind (arith, places)) in
        ap (λ (cs : List PlacedCommentValue). cs ++ comments_in_sections row y) (was ∙ ap (comments_in_sections 0) front)
        ∙ sym (ap (comments_in_sections 0) parts ∙ comments_both 0 row x y (omega (arith, h)))

    none : count ≤ at → before ++ comments_in_sections row (take (count - at) (take n (drop at ks))) ≡ comments_in_sections 0 (take count (take (at + n) ks))
    none l =
        let width : count - at ≡ 0 = omega (arith, l) in
        let same : take count (take at ks) ≡ take count (take (at + n) ks) = same_lists _ _ (search (rules, places)) (λ k d q. grind (arith, places)) in
        ap (λ i. before ++ comments_in_sections row (take i (take n (drop at ks)))) width ∙ (append-nil before ∙ (was ∙ ap (comments_in_sections 0) same))

-- ---- the overviews of all

pub behind : (ks : List KeptValue) (o : Overview) (n : ℕ) (more : List Overview) → AreOverviews (drop o.sections (drop n ks)) more → AreOverviews (drop (n + o.sections) ks) more
behind ks o n more h =
    let same : drop o.sections (drop n ks) ≡ drop (n + o.sections) ks = same_lists _ _ (search (rules, places)) (λ k d q. grind (arith, places)) in
    subst (λ (xs : List KeptValue). AreOverviews xs more) same h

-- the next of them, and what stands behind it
pub head_of : (ks : List KeptValue) (os more : List Overview) (i n : ℕ) → i < length os → AreOverviews (drop n ks) (drop i os ++ more)
    → IsOverviewOf (take (lent os i).sections (drop n ks)) (lent os i) × AreOverviews (drop (n + (lent os i).sections) ks) (drop (i + 1) os ++ more)
head_of ks os more i n l known =
    let o = lent os i in
    let next : IsOverviewOf (take o.sections (drop n ks)) o × AreOverviews (drop o.sections (drop n ks)) (drop (i + 1) os ++ more) =
    subst (λ (xs : List Overview). AreOverviews (drop n ks) (xs ++ more)) (next_of os i o l (lent_is os i l)) known in
    (next.0, behind ks o n (drop (i + 1) os ++ more) next.1)

-- behind the last of some
pub tail_of : (ks : List KeptValue) (os more : List Overview) (i n : ℕ) → length os ≤ i → AreOverviews (drop n ks) (drop i os ++ more) → AreOverviews (drop n ks) more
tail_of ks os more i n l known =
    let none : drop i os ≡ [] = same_lists _ _ (search (rules, places)) (λ k d q. grind (arith, places)) in
    subst (λ (xs : List Overview). AreOverviews (drop n ks) (xs ++ more)) none known

-- behind the last of all
pub all_said : (ks : List KeptValue) (n count : ℕ) (cs : List PlacedCommentValue) → drop n ks ≡ [] → cs ≡ comments_in_sections 0 (take count (take n ks)) → cs ≡ comments_in_sections 0 (take count ks)
all_said ks n count cs none is =
    let l : length ks ≤ n = omega (arith, length-drop n ks, ap (λ (xs : List KeptValue). length xs) none) in
    let same : take count (take n ks) ≡ take count ks = same_lists _ _ (search (rules, places)) (λ k d q. grind (arith, places)) in
    is ∙ ap (comments_in_sections 0) same

-- ---- at the beginning of the walk

pub none_gathered : {A : Type 0} (ks : List KeptValue) (count : ℕ) (g : Gathered A) → g.comments.items ≡ [] → g.section ≡ 0 → g.row ≡ 0 → IsGathered ks count g
none_gathered ks count g none section row = record {
  within = omega (arith, section);
  row = row ∙ sym (ap (λ n. rows_kept (take n ks)) section);
  comments = ap (map placed_comment_value) none ∙ sym (ap (λ n. comments_in_sections 0 (take count (take n ks))) section ∙ none_said [] count 0 tt);
}
