-- What the comments of sections say, where some may silence rules and some not.
use Rattle.std.proofs.Common.{◌≡◌, ℕ, suc, ◌+◌, ◌-◌, ◌<◌, ◌≤◌, ◌^◌, ⊎_elim, List, [], ◌∷◌, ◌++◌, length, map, take, drop, get_or, refl, ap, sym, subst, ◌∙◌, arith, rules, append-nil, append_assoc, length-append}
use Rattle.std.specs.List.{AllByRecursion, splice}
use Rattle.std.proofs.lemmas.Bool.{cases_lt}
use Rattle.std.proofs.lemmas.List.{same_lists, places, length-take}
use Rattle.yl_text.proofs.Every.{all_both, all_drop, all_take}
use Rattle.yl_lexeme.specs.Lexeme.{PlacedCommentValue}
use Rattle.yl_sections.specs.Kept.{KeptValue, rows_kept}
use Rattle.yl_lint.specs.TextReport.{comments_in_sections, moved_comment}
use Rattle.yl_summary.specs.Overview.{AreFew, IsSilencingOf, IsSilent}
use Rattle.yl_summary.specs.declared.overview.Silencing.{Silencing}
use Rattle.yl_found.proofs.Sections.{comments_both, no_comments}
use Rattle.yl_edited_lines.proofs.Pushed.{one_at}

abbrev Silent : List KeptValue → Type 0
Silent ks = AllByRecursion IsSilent ks

-- ---- sections that silence nothing

drop_more : (ks : List KeptValue) (n m : ℕ) → n ≤ m → Silent (drop n ks) → Silent (drop m ks)
drop_more ks n m l h =
    let same : drop (m - n) (drop n ks) ≡ drop m ks = same_lists _ _ (search (rules, places)) (λ k d o. grind (arith, places)) in
    subst (λ (xs : List KeptValue). Silent xs) same (all_drop IsSilent (drop n ks) (m - n) h)

-- ---- what the comments before one say

-- one section more, of those before an end
pub comments_next : (ks : List KeptValue) (i stop line below : ℕ) (k : KeptValue) (before now all : List PlacedCommentValue) → i < stop → stop ≤ length ks → k ≡ get_or ks i k
    → now ≡ before ++ map (moved_comment line) k.comments → below ≡ line + k.rows
    → before ++ comments_in_sections line (take (stop - i) (drop i ks)) ≡ all → now ++ comments_in_sections below (take (stop - (i + 1)) (drop (i + 1) ks)) ≡ all
comments_next ks i stop line below k before now all l h e is down known =
    let xs = take (stop - (i + 1)) (drop (i + 1) ks) in
    let n : stop - i ≡ suc (stop - (i + 1)) = omega (arith, l) in
    let parts : take (stop - i) (drop i ks) ≡ k ∷ xs = ap (λ m. take m (drop i ks)) n ∙ ap (λ (ys : List KeptValue). take (suc (stop - (i + 1))) ys) (one_at ks i k (omega (arith, l, h)) e) in
    ap (λ m. now ++ comments_in_sections m xs) down
    ∙ (ap (λ (cs : List PlacedCommentValue). cs ++ comments_in_sections (line + k.rows) xs) is
    ∙ (append_assoc before (map (moved_comment line) k.comments) (comments_in_sections (line + k.rows) xs) ∙ (ap (λ (ys : List KeptValue). before ++ comments_in_sections line ys) (sym parts) ∙ known)))

silent_rest : (ks : List KeptValue) (s : Silencing) (from stop : ℕ) → IsSilencingOf ks s → (stop < from → s.end ≤ stop) → Silent (take (from - stop) (drop stop ks))
silent_rest ks s from stop known m =
    ⊎_elim (λ l. all_take IsSilent (drop stop ks) (from - stop) (drop_more ks s.end stop (m l) known.behind)) (λ l. let none : 0 ≡ from - stop = omega (arith, l) in subst (λ n. Silent (take n (drop stop ks))) none tt)
    (cases_lt stop from)

silent_front : (ks : List KeptValue) (s : Silencing) (from stop : ℕ) → IsSilencingOf ks s → stop ≤ s.from → (stop < from → s.end ≤ stop) → Silent (take from ks)
silent_front ks s from stop known h m = ⊎_elim more less (cases_lt s.from from)
  where
    more : s.from < from → Silent (take from ks)
    more o =
        let same : take from ks ≡ take s.from ks ++ take (from - s.from) (drop s.from ks) = same_lists _ _ (search (rules, places)) (λ k d q. grind (arith, places)) in
        subst (λ (xs : List KeptValue). Silent xs) (sym same)
        (all_both IsSilent (take s.from ks) (take (from - s.from) (drop s.from ks)) known.start.silent
        (all_take IsSilent (drop s.from ks) (from - s.from) (drop_more ks s.end s.from (omega (arith, m (omega (arith, h, o)), h)) known.behind)))

    less : from ≤ s.from → Silent (take from ks)
    less o =
        let same : take from (take s.from ks) ≡ take from ks = same_lists _ _ (search (rules, places)) (λ k d q. grind (arith, places)) in
        subst (λ (xs : List KeptValue). Silent xs) same (all_take IsSilent (take s.from ks) from known.start.silent)

-- of all sections before one, those that may silence say all; the first of all begins at `row`, the first of those at `first`
pub comments_known : (ks : List KeptValue) (s : Silencing) (from stop row first : ℕ) → IsSilencingOf ks s → stop ≤ from → (stop < from → s.end ≤ stop) → first ≡ row + s.row
    → comments_in_sections first (take (stop - s.from) (drop s.from ks)) ≡ comments_in_sections row (take from ks)
comments_known ks s from stop row first known h m e = ⊎_elim some none (cases_lt s.from stop)
  where
    some : s.from < stop → comments_in_sections first (take (stop - s.from) (drop s.from ks)) ≡ comments_in_sections row (take from ks)
    some o =
        let x = take s.from ks in
        let y = take (stop - s.from) (drop s.from ks) in
        let z = take (from - stop) (drop stop ks) in
        let parts : take from ks ≡ x ++ (y ++ z) = same_lists _ _ (search (rules, places)) (λ k d q. grind (arith, places)) in
        let below = first + rows_kept y in
        sym (ap (λ (xs : List KeptValue). comments_in_sections row xs) parts
        ∙ (comments_both row first x (y ++ z) (omega (arith, e, known.start.rows))
        ∙ (ap (λ (cs : List PlacedCommentValue). cs ++ comments_in_sections first (y ++ z)) (no_comments row x known.start.silent)
        ∙ (comments_both first below y z refl
        ∙ (ap (λ (cs : List PlacedCommentValue). comments_in_sections first y ++ cs) (no_comments below z (silent_rest ks s from stop known m)) ∙ append-nil (comments_in_sections first y))))))

    none : stop ≤ s.from → comments_in_sections first (take (stop - s.from) (drop s.from ks)) ≡ comments_in_sections row (take from ks)
    none o =
        let n : stop - s.from ≡ 0 = omega (arith, o) in
        ap (λ k. comments_in_sections first (take k (drop s.from ks))) n ∙ sym (no_comments row (take from ks) (silent_front ks s from stop known o m))

-- at the end of a walk over some sections
pub comments_end : (ks : List KeptValue) (end i line : ℕ) (cs all : List PlacedCommentValue) → end ≤ i → cs ++ comments_in_sections line (take (end - i) (drop i ks)) ≡ all → cs ≡ all
comments_end ks end i line cs all l walked =
    let n : end - i ≡ 0 = omega (arith, l) in
    sym (ap (λ k. cs ++ comments_in_sections line (take k (drop i ks))) n ∙ append-nil cs) ∙ walked

-- ---- the sections that go, and those that come

pub gone_within : (ks all : List KeptValue) (end : ℕ) → end ≤ length ks → all ≡ splice ks 0 0 [] → end ≤ length all
gone_within ks all end l is = omega (arith, l, ap (λ (xs : List KeptValue). length xs) is)

module _ (ks ns all : List KeptValue) (from end : ℕ) (ordered : from ≤ end) (within : end ≤ length ks) (is : all ≡ splice ks from end ns) where
  pub come_is : take (from + length ns - from) (drop from all) ≡ ns
  come_is = ap (λ (xs : List KeptValue). take (from + length ns - from) (drop from xs)) is ∙ same_lists _ _ (search (rules, places)) (λ k d o. grind (arith, places))

  pub come_within : from + length ns ≤ length all
  come_within = omega (arith, ordered, within, ap (λ (xs : List KeptValue). length xs) is, length-append (take from ks) (ns ++ drop end ks), length-append ns (drop end ks), length-take from ks)

pub come_few : (ks ns : List KeptValue) (from end : ℕ) → from ≤ end → end ≤ length ks → AreFew (splice ks from end ns) → from + length ns < 2 ^ 63
come_few ks ns from end l h few = omega (arith, few.sections, come_within ks ns (splice ks from end ns) from end l h refl)
