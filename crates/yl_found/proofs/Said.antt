-- Which sections are shown, and what their comments say.
use Rattle.std.proofs.Common.{◌≡◌, ℕ, ◌+◌, ◌-◌, ◌<◌, ◌≤◌, true, List, [], ◌∷◌, ◌++◌, Option, Some, None, length, map, take, drop, get_or, refl, ap, sym, subst, ◌∙◌, arith, rules, ⊎_elim}
use Rattle.std.specs.Prelude.{is_some}
use Rattle.std.specs.List.{AllByRecursion, filter, slice_get}
use Rattle.std.proofs.lemmas.List.{same_lists, places, take_all, take-append-drop}
use Rattle.std.proofs.lemmas.Option.{slice_get_cases, slice_get_within}
use Rattle.yl_lexeme.specs.Lexeme.{PlacedCommentValue}
use Rattle.yl_sections.specs.Kept.{KeptValue, SectionFaultValue, unless_fault, rows_kept}
use Rattle.yl_sections.proofs.KeptRows.{got}
use Rattle.yl_lint.specs.TextReport.{comments_in_sections, shown}
use Rattle.yl_summary.specs.Overview.{IsFirstFault, IsSound}
use Rattle.yl_edited_lines.specs.Switches.{SpeaksWithin, may_switch, switch_texts}
use Rattle.yl_summary.proofs.Walks.{one_more, rows_both}
use Rattle.yl_edited_lines.proofs.Pushed.{one_at}

-- ---- the sections that are shown

shown_unless : (o : Option SectionFaultValue) (ks : List KeptValue) → is_some o ≡ true → unless_fault o ks ≡ []
shown_unless None ks e = absurd (cc)
shown_unless (Some f) ks e = refl

shown_sound : (xs ys : List KeptValue) → AllByRecursion IsSound xs → shown (xs ++ ys) ≡ xs ++ shown ys
shown_sound [] ys h = refl
shown_sound (x ∷ xs) ys h = ap (λ (f : Option SectionFaultValue). x ∷ unless_fault f (shown (xs ++ ys))) h.0 ∙ ap (λ (zs : List KeptValue). x ∷ zs) (shown_sound xs ys h.1)

shown_upto : (ks : List KeptValue) (n : ℕ) → AllByRecursion IsSound (take n ks) → shown ks ≡ take n ks ++ shown (drop n ks)
shown_upto ks n h = ap shown (sym (take-append-drop n ks)) ∙ shown_sound (take n ks) (drop n ks) h

-- up to the one with a fault
shown_one : (ks : List KeptValue) (n : ℕ) (k : KeptValue) → AllByRecursion IsSound (take n ks) → n < length ks → k ≡ get_or ks n k → is_some k.fault ≡ true → shown ks ≡ take n ks ++ k ∷ []
shown_one ks n k h l is some =
    shown_upto ks n h
    ∙ (ap (λ (xs : List KeptValue). take n ks ++ shown xs) (one_at ks n k l is) ∙ ap (λ (xs : List KeptValue). take n ks ++ k ∷ xs) (shown_unless k.fault (shown (drop (n + 1) ks)) some))

pub shown_first : (ks : List KeptValue) (n row : ℕ) (k : KeptValue) → IsFirstFault ks n row → slice_get ks n ≡ Some k → take (n + 1) ks ≡ shown ks
shown_first ks n row k first e =
    let l = slice_get_within ks n k e in
    let is = got ks n k e in
    one_more ks n k l is ∙ sym (shown_one ks n k first.upto.sound l is (first.next k e))

pub shown_there : (ks : List KeptValue) (n row : ℕ) → IsFirstFault ks n row → n < length ks → take (n + 1) ks ≡ shown ks
shown_there ks n row first l = ⊎_elim (λ s. shown_first ks n row s.0 first s.2) (λ s. absurd (omega (arith, l, s.0))) (slice_get_cases ks n).1

-- all, where none has one
pub shown_all : (ks : List KeptValue) (n row : ℕ) → IsFirstFault ks n row → length ks ≤ n → take n ks ≡ shown ks
shown_all ks n row first l =
    let none : drop n ks ≡ [] = same_lists _ _ (search (rules, places)) (λ k d o. grind (arith, places)) in
    let whole = take_all n ks l in
    sym (shown_upto ks n first.upto.sound ∙ (ap (λ (xs : List KeptValue). take n ks ++ shown xs) none ∙ (ap (λ (xs : List KeptValue). xs ++ []) whole ∙ (nothing_more ks ∙ sym whole))))
  where
    nothing_more : (xs : List KeptValue) → xs ++ [] ≡ xs
    nothing_more xs = same_lists _ _ (search (rules, places)) (λ k d o. grind (arith, places))

-- how many lines they have
pub rows_first : (ks : List KeptValue) (n row rows : ℕ) (k : KeptValue) → IsFirstFault ks n row → slice_get ks n ≡ Some k → rows ≡ row + k.rows → rows ≡ rows_kept (shown ks)
rows_first ks n row rows k first e is =
    let l = slice_get_within ks n k e in
    let one = one_more ks n k l (got ks n k e) in
    omega (arith, is, first.rows, rows_both (take n ks) (k ∷ []), ap rows_kept one, ap rows_kept (shown_first ks n row k first e))

pub rows_all : (ks : List KeptValue) (n row : ℕ) → IsFirstFault ks n row → length ks ≤ n → row ≡ rows_kept (shown ks)
rows_all ks n row first l = first.rows ∙ ap rows_kept (shown_all ks n row first l)

-- ---- what the comments of the first of them say

pub said_upto : (ks : List KeptValue) (shown_count count upto : ℕ) → take shown_count ks ≡ shown ks → count ≤ upto → count ≤ shown_count → (count < upto → count ≡ shown_count)
    → comments_in_sections 0 (take count ks) ≡ comments_in_sections 0 (take upto (shown ks))
said_upto ks shown_count count upto is l m o =
    let same : take count ks ≡ take upto (take shown_count ks) = same_lists _ _ (search (rules, places)) (λ k d q. grind (arith, places)) in
    ap (comments_in_sections 0) (same ∙ ap (take upto) is)

-- ---- what comments say that are listed otherwise

pub said_within : (cs ds : List PlacedCommentValue) (n m : ℕ) → cs ≡ ds → n ≡ m → AllByRecursion (SpeaksWithin n) cs → AllByRecursion (SpeaksWithin m) ds
said_within cs ds n m e f h = subst (λ k. AllByRecursion (SpeaksWithin k) ds) f (subst (λ (xs : List PlacedCommentValue). AllByRecursion (SpeaksWithin n) xs) e h)

pub same_switches : (gone here one other ls ns : List PlacedCommentValue) → one ≡ filter may_switch gone → other ≡ filter may_switch here → gone ≡ ls → here ≡ ns → map (λ (c : PlacedCommentValue). c.text) one ≡ map (λ (c : PlacedCommentValue). c.text) other → switch_texts ls ≡ switch_texts ns
same_switches gone here one other ls ns a b e f same =
    sym (ap (map (λ (c : PlacedCommentValue). c.text)) (a ∙ ap (filter may_switch) e)) ∙ (same ∙ ap (map (λ (c : PlacedCommentValue). c.text)) (b ∙ ap (filter may_switch) f))
