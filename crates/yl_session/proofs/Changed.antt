-- A section that is put in its own place.
use Rattle.std.proofs.Common.{◌≡◌, ◌+◌, ◌-◌, ◌<◌, ◌==◌, ℕ, Bool, true, false, List, [], ◌∷◌, length, take, drop, ap, arith, refl, rules, sym, ◌∙◌}
use Rattle.std.proofs.lemmas.List.{places, same_lists}
use Rattle.std.specs.List.{splice}
use Rattle.yl_sections.specs.Kept.{KeptValue, rows_kept}
use Rattle.yl_rejudge.proofs.Same.{splice_same}
use Rattle.yl_text.specs.Lines.{RowValue}
use Rattle.yl_summary.specs.declared.edit.SectionEdit.{SectionEdit}
use Rattle.yl_patch.specs.Cut.{IsApart}
use Rattle.yl_session.specs.Touched.{IsEditOf, IsTouching, touched_by, touched_end}

take_first : {X : Type 0} (xs : List X) (n : ℕ) → 0 < n → take 1 (take n xs) ≡ take 1 xs
take_first xs n h = same_lists _ _ (search (rules, places)) (λ k d l. grind (arith, places))

put_itself : (ks one : List KeptValue) (from : ℕ) → from < length ks → one ≡ take 1 (drop from ks) → splice ks from (from + 1) one ≡ ks
put_itself ks one from l is =
    let count : from + 1 - from ≡ 1 = omega arith in
    splice_same ks one from (from + 1) (omega arith) (omega (arith, l)) (ap (λ n. take n (drop from ks)) count ∙ sym is)

put_none : (ks : List KeptValue) (from : ℕ) → from < length ks → splice ks from from [] ≡ ks
put_none ks from l =
    let count : from - from ≡ 0 = omega arith in
    splice_same ks [] from from (omega arith) (omega (arith, l)) (ap (λ n. take n (drop from ks)) count)

first_of : (ks lent one : List KeptValue) (from : ℕ) → 0 < length lent → take (length lent) (drop from ks) ≡ lent → one ≡ take 1 lent → one ≡ take 1 (drop from ks)
first_of ks lent one from some lent_is one_is = one_is ∙ (ap (take 1) (sym lent_is) ∙ take_first (drop from ks) (length lent) some)

pub no_items : (ks : List KeptValue) → length ks ≡ 0 → ks ≡ []
no_items [] h = refl
no_items (k ∷ ks) h = absurd (omega (arith, h))

-- where all sections stay, the one at the place is put in its own place
pub itself : (ks lent one new : List KeptValue) (from end : ℕ) → from < length ks → from ≡ end → 0 < length lent → take (length lent) (drop from ks) ≡ lent → one ≡ take 1 lent → new ≡ []
    → splice ks from (from + 1) one ≡ splice ks from end new
itself ks lent one new from end l e some lent_is one_is none =
    put_itself ks one from l (first_of ks lent one from some lent_is one_is)
    ∙ (sym (put_none ks from l) ∙ (ap (λ n. splice ks from n []) e ∙ ap (λ (js : List KeptValue). splice ks from end js) (sym none)))

-- and it is what is touched
pub touches_one : (ks lent one new : List KeptValue) (from : ℕ) → 0 < length lent → take (length lent) (drop from ks) ≡ lent → one ≡ take 1 lent → new ≡ [] → one ≡ touched_by ks from new
touches_one ks lent one [] from some lent_is one_is none = first_of ks lent one from some lent_is one_is
touches_one ks lent one (n ∷ ns) from some lent_is one_is none = absurd (cc)

pub ends_one : (from end : ℕ) (new : List KeptValue) → new ≡ [] → from + 1 ≡ touched_end from end new
ends_one from end [] none = refl
ends_one from end (n ∷ ns) none = absurd (cc)

-- where some come, these are
pub touches_some : (ks new : List KeptValue) (from : ℕ) → (length new ≡ 0 → ⊥) → new ≡ touched_by ks from new
touches_some ks [] from some = absurd (some refl)
touches_some ks (n ∷ ns) from some = refl

pub ends_some : (from end : ℕ) (new : List KeptValue) → (length new ≡ 0 → ⊥) → end ≡ touched_end from end new
ends_some from end [] some = absurd (some refl)
ends_some from end (n ∷ ns) some = refl

-- a list that is told not to be empty has some
pub were_some : (new : List KeptValue) (n : ℕ) (b : Bool) → n ≡ length new → b ≡ (n == 0) → b ≡ false → length new ≡ 0 → ⊥
were_some new n b len is said none =
    let zero_is : n ≡ 0 = omega (arith, len, none) in
    let e : true ≡ false = sym (is ∙ ap (λ k. k == 0) zero_is) ∙ said in
    absurd (cc)

-- the lines of the sections that it touches stand apart
pub apart_of : {A : Type 0} (rows ins : List RowValue) (a b : ℕ) (ks : List KeptValue) (from end : ℕ) (new : List KeptValue) (e : SectionEdit A) → IsTouching rows ins a b ks from end new → IsEditOf e ks from end new
    → IsApart rows ins a b (rows_kept (take e.from e.sections.now.items)) (rows_kept (take e.end e.sections.now.items)) (rows_kept e.kept.now)
apart_of rows ins a b ks from end new e touching is =
    let first : rows_kept (take e.from e.sections.now.items) ≡ rows_kept (take from ks) = ap (λ (es : List KeptValue). rows_kept (take e.from es)) is.sections ∙ ap (λ n. rows_kept (take n ks)) is.from_is in
    let last : rows_kept (take e.end e.sections.now.items) ≡ rows_kept (take (touched_end from end new) ks) = ap (λ (es : List KeptValue). rows_kept (take e.end es)) is.sections ∙ ap (λ n. rows_kept (take n ks)) is.end_is in
    let count : rows_kept e.kept.now ≡ rows_kept (touched_by ks from new) = ap rows_kept is.kept in
    rw (first, last, count) touching.apart
