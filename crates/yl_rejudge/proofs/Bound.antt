-- How many documents are judged again.
use Rattle.std.proofs.Common.{◌≡◌, ℕ, zero, suc, ◌+◌, ◌-◌, ◌<◌, ◌≤◌, ◌&&◌, ◌⊎◌, Bool, true, false, leb, ltb, List, [], ◌∷◌, ◌++◌, length, take, drop, Option, None, refl, ap, sym, ◌∙◌, arith, rules, cond, inl, inr}
use Rattle.std.specs.List.{splice}
use Rattle.std.proofs.lemmas.Bool.{cases_lt, cases_eq, le-leb, lt-ltb, eq-eqb, ne_eqb}
use Rattle.std.proofs.lemmas.List.{same_lists, places, length-take, length-drop, take_all}
use Rattle.yl_lexeme.specs.declared.lexeme.Kind.{Kind}
use Rattle.yl_record.specs.Records.{RecordValue}
use Rattle.yl_sections.specs.Sections.{lexemes_of, sections}
use Rattle.yl_sections.specs.Local.{kind_after, begins_section, is_start_at, row_total}
use Rattle.yl_sections.specs.Kept.{document_count, documents_in}
use Rattle.yl_sections.proofs.Cuts.{last_anew}
use Rattle.yl_rejudge.specs.Places.{changed_sections}
use Rattle.yl_sections.specs.Alike.{GoOnAlike}
use Rattle.yl_sections.specs.Holding.{documents_holding, IsInSection}
use Rattle.yl_sections.proofs.SectionStarts.{starts_after, start_there, start_found, IsPlaceIn, rows_ordered, rows_apart, same_before, not_first, front_same, starts_past, from_row}
use Rattle.yl_rejudge.proofs.SectionsEdited.{AreCut, rows_of_sections, some_judged, ends, within_new, changed_none, changed_some}

-- ---- documents at lines

abbrev count_if : Bool → ℕ → ℕ
count_if b n = cond b n 0

counted : (b c : Bool) (n : ℕ) → b ≡ true → c ≡ true → n ≤ count_if (b && c) n
counted true true n e f = omega arith
counted true false n e f = absurd (cc)
counted false c n e f = absurd (cc)

-- where each of them holds one of the lines
holding_all : (ss : List (List RecordValue)) (line r m : ℕ) → ((j : ℕ) → j < length ss → (line + row_total (take j ss) ≤ m) × (r < line + row_total (take (suc j) ss)))
    → documents_in ss ≤ documents_holding line r m ss
holding_all [] line r m h = omega arith
holding_all (s ∷ ss) line r m h =
    let a = h 0 (omega arith) in
    let here = counted (leb line m) (ltb r (line + length s)) (document_count (lexemes_of s)) (le-leb line m (omega (arith, a.0))) (lt-ltb r (line + length s) (omega (arith, a.1))) in
    omega (arith, here, holding_all ss (line + length s) r m (λ j l. let b = h (suc j) (omega (arith, l)) in (omega (arith, b.0), omega (arith, b.1))))

holding_front : (xs ys : List (List RecordValue)) (line r m : ℕ) → documents_holding line r m xs ≤ documents_holding line r m (xs ++ ys)
holding_front [] ys line r m = omega arith
holding_front (x ∷ xs) ys line r m = omega (arith, holding_front xs ys (line + length x) r m)

holding_back : (xs ys : List (List RecordValue)) (line r m : ℕ) → documents_holding (line + row_total xs) r m ys ≤ documents_holding line r m (xs ++ ys)
holding_back [] ys line r m = let e : line + 0 ≡ line = omega arith in let f = ap (λ n. documents_holding n r m ys) e in omega (arith, f)
holding_back (x ∷ xs) ys line r m =
    let e : line + length x + row_total xs ≡ line + (length x + row_total xs) = omega arith in
    let f = ap (λ n. documents_holding n r m ys) e in
    omega (arith, f, holding_back xs ys (line + length x) r m)

-- some sections of many
pub holding_part : (ss xs : List (List RecordValue)) (p q x r m : ℕ) → x ≡ row_total (take p ss) → documents_holding x r m xs ≤ documents_holding 0 r m (splice ss p q xs)
holding_part ss xs p q x r m e =
    let n : x ≡ 0 + row_total (take p ss) = omega (arith, e) in
    let f = ap (λ k. documents_holding k r m xs) n in
    let g = holding_front xs (drop q ss) (0 + row_total (take p ss)) r m in
    omega (arith, f, g, holding_back (take p ss) (xs ++ drop q ss) 0 r m)

-- ---- sections of rows that begin one

drop_take : (xs : List RecordValue) (x z : ℕ) → x ≤ z → drop x (take z xs) ≡ take (z - x) (drop x xs)
drop_take xs x z o = same_lists _ _ (search (rules, places)) (λ k d h. grind (arith, places))

-- what comes before does not count
alone : (last : Option Kind) (rs : List RecordValue) (i : ℕ) → 0 < i → begins_section last rs ≡ true → starts_after last rs i ≡ starts_after None rs i
alone last rs zero l b = absurd (omega (arith, l))
alone last [] (suc i) l b = absurd (cc)
alone last (r ∷ rs) (suc i) l b = ap (λ (k : Option Kind). starts_after k rs i) (last_anew last r.entry.lexemes b)

alone_or : (new : List RecordValue) (x i : ℕ) → 0 < i → (x ≡ 0) ⊎ (is_start_at new x ≡ true) → starts_after (kind_after None (take x new)) (drop x new) i ≡ starts_after None (drop x new) i
alone_or new x i l (inl e) = ap (λ n. starts_after (kind_after None (take n new)) (drop x new) i) e
alone_or new x i l (inr b) = alone (kind_after None (take x new)) (drop x new) i l b

pub cut_starts : (new : List RecordValue) (x z i : ℕ) → 0 < i → x + i < z → (x ≡ 0) ⊎ (is_start_at new x ≡ true) → is_start_at (drop x (take z new)) i ≡ is_start_at new (x + i)
cut_starts new x z i some l b =
    ap (λ (es : List RecordValue). starts_after None es i) (drop_take new x z (omega (arith, l)))
    ∙ (front_same None (drop x new) (z - x) i (omega (arith, l)) ∙ (sym (alone_or new x i some b) ∙ sym (from_row None new x i)))

-- rows of which the first is at line x, which begin no section up to line r, and none after line m
module _ (rs : List RecordValue) (x r m : ℕ) (first : x ≤ m) (last : r < x + length rs) (none : (i : ℕ) → 0 < i → i < length rs → (x + i ≤ r) ⊎ (m < x + i) → is_start_at rs i ≡ false) where
  -- the place of a section
  begins : (j : ℕ) → 0 < j → j < length (sections rs) → (x + row_total (take j (sections rs)) ≤ m) × (r < x + row_total (take j (sections rs)))
  begins j s l =
      let i = row_total (take j (sections rs)) in
      let b : is_start_at rs i ≡ true = start_there rs j s l in
      let some : 0 < i = elim (cases_lt 0 i) [
        | inl h ↦ h
        | inr h ↦ let e : i ≡ 0 = omega (arith, h) in let f : is_start_at rs i ≡ false = ap (λ n. is_start_at rs n) e ∙ not_first rs in absurd (cc)
      ] in
      let within : i < length rs = elim (cases_lt i (length rs)) [
        | inl h ↦ h
        | inr h ↦ let f : is_start_at rs i ≡ false = starts_past None rs i (omega (arith, h)) in absurd (cc)
      ] in
      let low : x + i ≤ m = elim (cases_lt m (x + i)) [
        | inl h ↦ let f = none i some within (inr h) in absurd (cc)
        | inr h ↦ omega (arith, h)
      ] in
      let high : r < x + i = elim (cases_lt r (x + i)) [
        | inl h ↦ h
        | inr h ↦ let f = none i some within (inl (omega (arith, h))) in absurd (cc)
      ] in
      (low, high)

  low : (j : ℕ) → j < length (sections rs) → x + row_total (take j (sections rs)) ≤ m
  low zero l = omega (arith, first)
  low (suc j) l = (begins (suc j) (omega arith) l).0

  high : (j : ℕ) → j < length (sections rs) → r < x + row_total (take (suc j) (sections rs))
  high j l = elim (cases_lt (suc j) (length (sections rs))) [
    | inl h ↦ (begins (suc j) (omega arith) h).1
    | inr h ↦
        let e : row_total (take (suc j) (sections rs)) ≡ length rs = ap row_total (take_all (suc j) (sections rs) (omega (arith, h))) ∙ rows_of_sections rs in
        omega (arith, e, last)
  ]

  pub held : documents_in (sections rs) ≤ documents_holding x r m (sections rs)
  held = holding_all (sections rs) x r m (λ j l. (low j l, high j l))

-- ---- no section is judged in vain

-- p0 is the last old section that begins at row `from` or before it, p the last up to p0 that begins in the new rows too; q the first
-- from p on that begins at old_end or after it, and in the new rows too
pub record AreNext (old new : List RecordValue) (p p0 q from old_end end : ℕ) : Type 0 where
  pub front : (j : ℕ) → p < j → j ≤ p0 → is_start_at new (row_total (take j (sections old))) ≡ false
  pub next : (p0 ≡ length (sections old)) ⊎ (from < row_total (take (p0 + 1) (sections old)))
  pub back : (j : ℕ) → p ≤ j → j < q → old_end ≤ row_total (take j (sections old)) → is_start_at new (row_total (take j (sections old)) - old_end + end) ≡ false
  pub old_range : from ≤ old_end
  pub range : from ≤ end
  pub within : end ≤ length new
  pub alike : GoOnAlike old new old_end end

pub is_false : (b : Bool) → (b ≡ true → ⊥) → b ≡ false
is_false true h = absurd (h refl)
is_false false h = refl

-- among the rows of a section none begins below one of them
pub in_section : (rs : List RecordValue) (p from i : ℕ) → row_total (take p (sections rs)) ≤ from → i < row_total (take (p + 1) (sections rs)) → IsInSection rs from i
in_section rs p from i low high j l o = is_false (is_start_at rs j) (λ b.
    let h = start_found rs j b in
    elim (cases_lt p h.j) [
      | inl k ↦ omega (arith, o, high, h.at, rows_ordered (sections rs) (p + 1) h.j (omega (arith, k)))
      | inr k ↦ omega (arith, l, low, h.at, rows_ordered (sections rs) h.j p (omega (arith, k)))
    ])

module _ (old new : List RecordValue) (p p0 q x y z from old_end end : ℕ) (c : AreCut old new p q x y z from old_end end) (d : AreNext old new p p0 q from old_end end) where
  -- a section that begins at row `from` or before it in both is judged from, or stays
  pub in_front : (i : ℕ) → i ≤ from → is_start_at old i ≡ true → is_start_at new i ≡ true → i ≤ x
  in_front i o a b =
      let h = start_found old i a in
      elim (cases_lt p h.j) [
        | inr l ↦ omega (arith, h.at, c.x_is, rows_ordered (sections old) h.j p (omega (arith, l)))
        | inl l ↦ elim (cases_lt p0 h.j) [
          | inr k ↦ let f = ap (λ n. is_start_at new n) h.at ∙ d.front h.j l (omega (arith, k)) in absurd (cc)
          | inl k ↦ elim d.next [
            | inl e ↦ absurd (omega (arith, k, e, h.within))
            | inr e ↦ absurd (omega (arith, e, o, h.at, rows_ordered (sections old) (p0 + 1) h.j (omega (arith, k))))
          ]
        ]
      ]

  pub no_start_before : (i : ℕ) → x < i → i < from → is_start_at new i ≡ false
  no_start_before i l o = is_false (is_start_at new i) (λ b. let a = same_before old new from i c.before o ∙ b in let k = in_front i (omega (arith, o)) a b in omega (arith, l, k))

  -- so many rows after the end
  not_kept : (e : ℕ) → x ≤ end + e → end + e < z → is_start_at new (end + e) ≡ true → IsPlaceIn (sections old) (old_end + e) → ⊥
  not_kept e o l b h = elim (cases_lt h.j p) [
    | inl k ↦ let a = rows_apart old h.j p h.some k (omega (arith, c.ordered, c.within)) in omega (arith, a, h.at, c.x_is, c.front, d.old_range)
    | inr k ↦ elim (cases_lt h.j q) [
      | inl j ↦
          let n : row_total (take h.j (sections old)) - old_end + end ≡ end + e = omega (arith, h.at) in
          let f : is_start_at new (end + e) ≡ false = ap (λ i. is_start_at new i) (sym n) ∙ d.back h.j (omega (arith, k)) j (omega (arith, h.at)) in
          let g : true ≡ false = sym b ∙ f in
          absurd (cc)
      | inr j ↦
          let a = rows_ordered (sections old) q h.j (omega (arith, j)) in
          let ne : q ≡ length (sections old) → ⊥ = λ w. omega (arith, w, h.within, j) in
          let at : z ≡ y - old_end + end = c.z_is ∙ ap (λ (t : Bool). cond t (length new) (y - old_end + end)) (ne_eqb q (length (sections old)) ne) in
          omega (arith, at, l, a, h.at, c.y_is)
    ]
  ]

  after : (e : ℕ) → x ≤ end + e → end + e < z → is_start_at new (end + e) ≡ false
  after e o l = is_false (is_start_at new (end + e)) (λ b. not_kept e o l b (start_found old (old_end + e) (d.alike e b)))

  pub no_start_after : (i : ℕ) → x ≤ i → end ≤ i → i < z → is_start_at new i ≡ false
  no_start_after i o a l =
      let n : end + (i - end) ≡ i = omega (arith, a) in
      ap (λ k. is_start_at new k) (sym n) ∙ after (i - end) (omega (arith, n, o)) (omega (arith, n, l))

  pub first_or : (x ≡ 0) ⊎ (is_start_at new x ≡ true)
  first_or = elim c.first [
    | inl e ↦ inl (c.x_is ∙ ap (λ n. row_total (take n (sections old))) e)
    | inr b ↦ inr b
  ]

  x_low : (m : ℕ) → x < z → end ≤ m + 1 → x ≤ m
  x_low m some o = elim first_or [
    | inl e ↦ omega (arith, e)
    | inr b ↦ elim (cases_lt x end) [
      | inl l ↦ omega (arith, l, o)
      | inr l ↦ let f = no_start_after x (omega arith) (omega (arith, l)) some in let g : true ≡ false = sym b ∙ f in absurd (cc)
    ]
  ]

  count_rows : length (drop x (take z new)) ≡ z - x
  count_rows = let w = within_new old new p q x y z from old_end end c in omega (arith, w, length-drop x (take z new), length-take z new)

  pub judged_from : (r m : ℕ) → x < z → end ≤ m + 1 → r < z → ((i : ℕ) → x < i → i ≤ r → is_start_at new i ≡ false)
      → documents_in (sections (drop x (take z new))) ≤ documents_holding 0 r m (sections new)
  judged_from r m some o l none =
      let rs = drop x (take z new) in
      let quiet_at : (i : ℕ) → 0 < i → i < length rs → (x + i ≤ r) ⊎ (m < x + i) → is_start_at rs i ≡ false =
      λ i s w h. cut_starts new x z i s (omega (arith, w, count_rows)) first_or ∙ elim h [
        | inl k ↦ none (x + i) (omega (arith, s)) k
        | inr k ↦ no_start_after (x + i) (omega arith) (omega (arith, k, o)) (omega (arith, w, count_rows))
      ] in
      let a = held rs x r m (x_low m some o) (omega (arith, l, count_rows, some)) quiet_at in
      let b = holding_part (sections old) (sections rs) p q x r m c.x_is in
      let e = ap (λ (ss : List (List RecordValue)). documents_holding 0 r m ss) (some_judged old new p q x y z from old_end end c some) in
      omega (arith, a, b, e)

  -- where the new rows stop being judged
  pub z_high : end ≤ z
  z_high = elim (cases_eq q (length (sections old))) [
    | inl e ↦ let at = c.z_is ∙ ap (λ (t : Bool). cond t (length new) (y - old_end + end)) (eq-eqb q (length (sections old)) e) in omega (arith, at, d.within)
    | inr n ↦ let at = c.z_is ∙ ap (λ (t : Bool). cond t (length new) (y - old_end + end)) (ne_eqb q (length (sections old)) n) in omega (arith, at)
  ]

  -- of a section that ends before row `from`
  judged_near : (bo bn : Bool) (m : ℕ) → is_start_at old from ≡ bo → is_start_at new from ≡ bn → from < length new → x < z → end ≤ m + 1
      → (documents_in (sections (drop x (take z new))) ≤ documents_holding 0 from m (sections new)) ⊎ ((is_start_at old from ≡ false) × ((is_start_at new from ≡ true) × (x < from)))
  judged_near true true m eo en row some o =
      let at = in_front from (omega arith) eo en in
      inl (judged_from from m some o (omega (arith, c.front, some, at)) (λ i l k. absurd (omega (arith, l, k, at))))
  judged_near false true m eo en row some o = elim (cases_lt x from) [
    | inl l ↦ inr (eo, (en, l))
    | inr l ↦ inl (judged_from from m some o (omega (arith, c.front, some, l)) (λ i a k. absurd (omega (arith, a, k, l))))
  ]
  judged_near bo false m eo en row some o = elim (cases_lt from z) [
    | inl l ↦ inl (judged_from from m some o l (λ i a k. elim (cases_lt i from) [
      | inl w ↦ no_start_before i a w
      | inr w ↦ let e : i ≡ from = omega (arith, w, k) in ap (λ n. is_start_at new n) e ∙ en
    ]))
    | inr l ↦
        let at : from ≡ z = omega (arith, l, z_high, d.range) in
        elim (cases_eq q (length (sections old))) [
          | inl e ↦
              let is = c.z_is ∙ ap (λ (t : Bool). cond t (length new) (y - old_end + end)) (eq-eqb q (length (sections old)) e) in
              absurd (omega (arith, at, is, row))
          | inr n ↦ elim (ends old new p q x y z from old_end end c).1 [
            | inl e ↦ absurd (n e)
            | inr b ↦ let f : true ≡ false = sym b ∙ (ap (λ k. is_start_at new k) (sym at) ∙ en) in absurd (cc)
          ]
        ]
  ]

  pub documents_near : (m : ℕ) → end ≤ m + 1 → from < length new → (documents_in (changed_sections p x z new) ≤ documents_holding 0 from m (sections new))
      ⊎ ((is_start_at old from ≡ false) × ((is_start_at new from ≡ true) × (x < from)))
  documents_near m o row = elim (cases_lt x z) [
    | inl l ↦ let e = ap documents_in (changed_some p x z new l) in elim (judged_near (is_start_at old from) (is_start_at new from) m refl refl row l o) [
      | inl h ↦ inl (omega (arith, e, h))
      | inr h ↦ inr h
    ]
    | inr l ↦ let e = changed_none p x z new (omega (arith, l, c.front, z_high, d.range)) in inl (omega (arith, e))
  ]
