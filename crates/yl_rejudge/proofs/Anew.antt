-- A section that ends anew above row `from`, and keeps what it had.
use Rattle.std.proofs.Common.{◌≡◌, ℕ, zero, suc, ◌+◌, ◌-◌, ◌<◌, ◌≤◌, ◌⊎◌, ◌==◌, ◌&&◌, ltb, Bool, true, false, cond, List, [], ◌∷◌, ◌++◌, length, map, take, drop, get_or, Option, Some, None, refl, ap, sym, subst, ◌∙◌, add-one, arith, rules, append-nil, append_assoc, inl, inr}
use Rattle.std.specs.Prelude.{slice_get}
use Rattle.std.specs.List.{splice}
use Rattle.std.proofs.lemmas.Bool.{cases_lt, eq-eqb, lt-ltb}
use Rattle.std.proofs.lemmas.List.{same_lists, places, length-take, length-drop, take_all, take-append-drop}
use Rattle.std.proofs.Math.Seq.{drop-append-add, take-append-add}
use Rattle.yl_config.specs.declared.config.Config.{Config}
use Rattle.yl_record.specs.Records.{RecordValue}
use Rattle.yl_sections.specs.Sections.{parts, sections}
use Rattle.yl_sections.specs.Local.{is_start_at, row_total, all_rows}
use Rattle.yl_sections.specs.Front.{IsFront}
use Rattle.yl_sections.specs.Kept.{KeptValue, documents_in}
use Rattle.yl_sections.specs.Judge.{kept_of_section}
use Rattle.yl_sections.proofs.Local.{sections_then, joined_parts}
use Rattle.yl_rejudge.specs.Places.{changed_sections}
use Rattle.yl_sections.specs.Holding.{documents_holding}
use Rattle.yl_rejudge.specs.Documents.{AreFront}
use Rattle.yl_sections.proofs.SectionStarts.{start_there, not_first, starts_past, same_before, front_same}
use Rattle.yl_rejudge.proofs.SectionsEdited.{AreCut, within_new, rows_of_sections, some_judged, changed_none, changed_some}
use Rattle.yl_rejudge.proofs.Bound.{AreNext, held, holding_part, cut_starts, in_front, no_start_before, no_start_after, first_or, z_high}

-- ---- rows among which no section begins

one_section : (rs : List RecordValue) → ((i : ℕ) → 0 < i → i < length rs → is_start_at rs i ≡ false) → sections rs ≡ rs ∷ []
one_section rs none = by_later (parts None rs).later refl
  where
    by_later : (ls : List (List RecordValue)) → (parts None rs).later ≡ ls → sections rs ≡ rs ∷ []
    by_later [] e =
        let all : sections rs ≡ (parts None rs).here ∷ [] = ap (λ (ls : List (List RecordValue)). (parts None rs).here ∷ ls) e in
        let here : (parts None rs).here ≡ rs = sym (append-nil (parts None rs).here) ∙ (sym (ap all_rows all) ∙ joined_parts None rs) in
        all ∙ ap (λ (s : List RecordValue). s ∷ []) here
    by_later (l ∷ ls) e =
        let i = row_total (take 1 (sections rs)) in
        let count : length (parts None rs).later ≡ suc (length ls) = ap (λ (ms : List (List RecordValue)). length ms) e in
        let b : is_start_at rs i ≡ true = start_there rs 1 (omega arith) (omega (arith, count)) in
        let f : is_start_at rs i ≡ false = elim (cases_lt 0 i) [
          | inr n ↦ let z : i ≡ 0 = omega (arith, n) in ap (λ k. is_start_at rs k) z ∙ not_first rs
          | inl s ↦ elim (cases_lt i (length rs)) [
            | inl w ↦ none i s w
            | inr w ↦ starts_past None rs i w
          ]
        ] in
        let g : true ≡ false = sym b ∙ f in
        absurd (cc)

front_rows : (rs : List RecordValue) (x from z : ℕ) → x ≤ from → from ≤ z → take (from - x) (drop x (take z rs)) ≡ drop x (take from rs)
front_rows rs x from z o l = same_lists _ _ (search (rules, places)) (λ k d h. grind (arith, places))

back_rows : (rs : List RecordValue) (x from z : ℕ) → x ≤ from → from ≤ z → drop (from - x) (drop x (take z rs)) ≡ drop from (take z rs)
back_rows rs x from z o l = same_lists _ _ (search (rules, places)) (λ k d h. grind (arith, places))

none_changed : (p x z : ℕ) (new : List RecordValue) → x ≡ z → changed_sections (p + 1) x z new ≡ []
none_changed p x z new e = rw (lt-ltb 0 (p + 1) (omega arith), eq-eqb x z e) refl

module _ (old new : List RecordValue) (p p0 q x y z from old_end end : ℕ) (c : AreCut old new p q x y z from old_end end) (d : AreNext old new p p0 q from old_end end)
    (start : is_start_at new from ≡ true) (before : x < from) where
  pub high : from ≤ z
  high = let h = z_high old new p p0 q x y z from old_end end c d in omega (arith, h, d.range)

  abbrev rs : List RecordValue
  rs = drop x (take z new)

  abbrev n : ℕ
  n = from - x

  starts_in : (i : ℕ) → 0 < i → x + i < z → is_start_at rs i ≡ is_start_at new (x + i)
  starts_in i s l = cut_starts new x z i s l (first_or old new p p0 q x y z from old_end end c d)

  none_in_front : (i : ℕ) → 0 < i → i < length (take n rs) → is_start_at (take n rs) i ≡ false
  none_in_front i s l =
      let k : i < n = omega (arith, l, length-take n rs) in
      front_same None rs n i k ∙ (starts_in i s (omega (arith, k, high)) ∙ no_start_before old new p p0 q x y z from old_end end c d (x + i) (omega (arith, s)) (omega (arith, k)))

  front_section : sections (drop x (take from new)) ≡ drop x (take from new) ∷ []
  front_section =
      let e = front_rows new x from z (omega (arith, before)) high in
      ap sections (sym e) ∙ (one_section (take n rs) none_in_front ∙ ap (λ (s : List RecordValue). s ∷ []) e)

  -- what is judged is the section above and what is judged from the row on
  parted_by : (from < z) ⊎ (z ≤ from) → sections rs ≡ drop x (take from new) ∷ changed_sections (p + 1) from z new
  parted_by (inl l) =
      let at : x + n ≡ from = omega (arith, before) in
      let b : is_start_at rs n ≡ true = starts_in n (omega (arith, before)) (omega (arith, at, l)) ∙ (ap (λ k. is_start_at new k) at ∙ start) in
      ap sections (sym (take-append-drop n rs))
      ∙ (sections_then (take n rs) (drop n rs) b
      ∙ (ap (λ (s : List RecordValue). sections s ++ sections (drop n rs)) (front_rows new x from z (omega (arith, before)) high)
      ∙ (ap (λ (s : List RecordValue). sections (drop x (take from new)) ++ sections s) (back_rows new x from z (omega (arith, before)) high)
      ∙ (ap (λ (ss : List (List RecordValue)). ss ++ sections (drop from (take z new))) front_section
      ∙ ap (λ (ss : List (List RecordValue)). drop x (take from new) ∷ ss) (sym (changed_some (p + 1) from z new l))))))
  parted_by (inr l) =
      let at : from ≡ z = omega (arith, l, high) in
      ap (λ k. sections (drop x (take k new))) (sym at)
      ∙ (front_section ∙ ap (λ (ss : List (List RecordValue)). drop x (take from new) ∷ ss) (sym (none_changed p from z new at)))

  pub changed_anew : splice (sections old) p q (drop x (take from new) ∷ changed_sections (p + 1) from z new) ≡ sections new
  changed_anew =
      ap (λ (ss : List (List RecordValue)). splice (sections old) p q ss) (sym (parted_by (cases_lt from z)))
      ∙ some_judged old new p q x y z from old_end end c (omega (arith, before, high))

  -- the documents from the row on
  held_behind : (m : ℕ) → end ≤ m + 1 → from < z → documents_in (sections (drop from (take z new))) ≤ documents_holding from from m (sections (drop from (take z new)))
  held_behind m o l =
      let es = drop from (take z new) in
      let count : z ≤ length new → length es ≡ z - from = λ w. omega (arith, w, length-drop from (take z new), length-take z new) in
      let first : from ≤ m = elim (cases_lt from end) [
        | inl k ↦ omega (arith, k, o)
        | inr k ↦
            let f = no_start_after old new p p0 q x y z from old_end end c d from (omega (arith, before)) (omega (arith, k)) l in
            let g : true ≡ false = sym start ∙ f in
            absurd (cc)
      ] in
      let some : 0 < length es = omega (arith, l, length-drop from (take z new), length-take z new, within) in
      held es from from m first (omega (arith, some)) (λ i s w h.
      cut_starts new from z i s (omega (arith, w, count within)) (inr start) ∙ elim h [
        | inl k ↦ absurd (omega (arith, k, s))
        | inr k ↦ no_start_after old new p p0 q x y z from old_end end c d (from + i) (omega (arith, before)) (omega (arith, k, o)) (omega (arith, w, count within))
      ])
    where
      within : z ≤ length new
      within = within_new old new p q x y z from old_end end c

  pub documents_anew : (m : ℕ) → end ≤ m + 1 → documents_in (changed_sections (p + 1) from z new) ≤ documents_holding 0 from m (sections new)
  documents_anew m o = elim (cases_lt from z) [
    | inr l ↦ let e = changed_none (p + 1) from z new (omega (arith, l, high)) in omega (arith, e)
    | inl l ↦
        let ss = changed_sections (p + 1) from z new in
        let s = drop x (take from new) in
        let e : ss ≡ sections (drop from (take z new)) = changed_some (p + 1) from z new l in
        let at : x + length s ≡ from = omega (arith, before, length-drop x (take from new), length-take from new, d.range, d.within) in
        let here : documents_in ss ≤ documents_holding from from m ss = subst (λ (us : List (List RecordValue)). documents_in us ≤ documents_holding from from m us) (sym e) (held_behind m o l) in
        let there : documents_holding (x + length s) from m ss ≡ documents_holding from from m ss = ap (λ k. documents_holding k from m ss) at in
        let a = holding_part (sections old) (s ∷ ss) p q x from m c.x_is in
        let b = ap (λ (us : List (List RecordValue)). documents_holding 0 from m us) changed_anew in
        omega (arith, here, there, a, b)
  ]

  -- it is the last section that begins at the row or above it
  module _ (lost : is_start_at old from ≡ false) (reached : row_total (take p0 (sections old)) ≤ from) (order : p ≤ p0) (few : p0 ≤ length (sections old)) (within : from ≤ length old) where
    past : (j : ℕ) → length (sections old) ≤ j → row_total (take j (sections old)) ≡ length old
    past j l = ap row_total (take_all j (sections old) l) ∙ rows_of_sections old

    same_section : p ≡ p0
    same_section = elim (cases_lt p p0) [
      | inr l ↦ omega (arith, l, order)
      | inl l ↦
          let i = row_total (take p0 (sections old)) in
          let f : is_start_at new i ≡ false = d.front p0 l (omega arith) in
          elim (cases_lt i from) [
            | inr k ↦ let e : i ≡ from = omega (arith, k, reached) in let g : true ≡ false = sym start ∙ (ap (λ k. is_start_at new k) (sym e) ∙ f) in absurd (cc)
            | inl k ↦ elim (cases_lt p0 (length (sections old))) [
              | inr w ↦ absurd (omega (arith, k, within, past p0 w))
              | inl w ↦ let g : true ≡ false = sym (start_there old p0 (omega (arith, l)) w) ∙ (same_before old new from i c.before k ∙ f) in absurd (cc)
            ]
          ]
    ]

    pub section_there : p < length (sections old)
    section_there = elim (cases_lt p (length (sections old))) [
      | inl l ↦ l
      | inr l ↦ absurd (omega (arith, before, c.x_is, past p l, within))
    ]

    pub section_reaches : from < row_total (take (p + 1) (sections old))
    section_reaches = elim d.next [
      | inl e ↦ absurd (omega (arith, section_there, same_section, e))
      | inr l ↦ let e = ap (λ k. row_total (take (k + 1) (sections old))) same_section in omega (arith, l, e)
    ]

-- ---- what is kept of it

module _ (config : Config) where
  -- of a section, by its rows
  section_kept : (ss : List (List RecordValue)) (p : ℕ) (k : KeptValue) → p < length ss → k ≡ get_or (map (kept_of_section config) ss) p k
      → k ≡ kept_of_section config (drop (row_total (take p ss)) (take (row_total (take (suc p) ss)) (all_rows ss)))
  section_kept [] p k l e = absurd (omega (arith, l))
  section_kept (s ∷ ss) zero k l e =
      let rows : take (length s + 0) (s ++ all_rows ss) ≡ s = take-append-add s (all_rows ss) 0 ∙ append-nil s in
      e ∙ ap (kept_of_section config) (sym rows)
  section_kept (s ∷ ss) (suc p) k l e =
      let a = row_total (take p ss) in
      let b = row_total (take (suc p) ss) in
      let rows : drop (length s + a) (take (length s + b) (s ++ all_rows ss)) ≡ drop a (take b (all_rows ss)) =
      ap (λ (es : List RecordValue). drop (length s + a) es) (take-append-add s (all_rows ss) b) ∙ drop-append-add s (take b (all_rows ss)) a in
      section_kept ss p k (omega (arith, l)) e ∙ ap (kept_of_section config) (sym rows)

get_dropped : (rs : List RecordValue) (x i : ℕ) → slice_get (drop x rs) i ≡ slice_get rs (x + i)
get_dropped rs zero i = ap (λ k. slice_get rs k) (zero_and i) where
  zero_and : (i : ℕ) → i ≡ 0 + i
  zero_and i = omega arith
get_dropped [] (suc x) i = refl
get_dropped (r ∷ rs) (suc x) i = let e : suc x + i ≡ suc (x + i) = omega arith in get_dropped rs x i ∙ ap (λ k. slice_get (r ∷ rs) k) (sym e)

get_taken : (rs : List RecordValue) (e i : ℕ) (r : RecordValue) → slice_get (take e rs) i ≡ Some r → (i < e) × (slice_get rs i ≡ Some r)
get_taken rs zero i r h = cc
get_taken [] (suc e) i r h = cc
get_taken (x ∷ rs) (suc e) zero r h = (omega arith, h)
get_taken (x ∷ rs) (suc e) (suc i) r h = let g = get_taken rs e i r h in (omega (arith, g.0), g.1)

-- of rows between two others
front_between : (rs : List RecordValue) (x from e : ℕ) → x ≤ from → AreFront rs x from e → IsFront (from - x) (drop x (take e rs))
front_between rs x from e o h = record {
  sound = λ i r l at. let g = get_taken rs e (x + i) r (sym (get_dropped (take e rs) x i) ∙ at) in (h (x + i) r (omega arith) g.0 g.1).0 (omega (arith, l, o));
  bare = λ i r l at. let g = get_taken rs e (x + i) r (sym (get_dropped (take e rs) x i) ∙ at) in (h (x + i) r (omega arith) g.0 g.1).1 (omega (arith, l, o));
}

-- what is kept of its rows above the one, and of the sections from there on
pub kept_anew : (config : Config) (old new : List RecordValue) (p x e from : ℕ) (k : KeptValue) (kept ks : List KeptValue) (ss : List (List RecordValue)) → kept ≡ map (kept_of_section config) (sections old)
    → p < length (sections old) → x ≡ row_total (take p (sections old)) → e ≡ row_total (take (p + 1) (sections old)) → e ≤ length old → x < from → from < e → take from old ≡ take from new → AreFront old x from e
    → k ≡ get_or kept p k
    → ((rs : List RecordValue) → from - x ≤ length rs → IsFront (from - x) rs → k ≡ kept_of_section config rs → ks ≡ kept_of_section config (take (from - x) rs) ∷ map (kept_of_section config) ss)
    → ks ≡ map (kept_of_section config) (drop x (take from new) ∷ ss)
kept_anew config old new p x e from k kept ks ss is there x_is e_is few before after same front at put =
    let rs = drop x (take e old) in
    let whole : k ≡ kept_of_section config rs =
    section_kept config (sections old) p k there (at ∙ ap (λ (js : List KeptValue). get_or js p k) is)
    ∙ (ap (λ (es : List RecordValue). kept_of_section config (drop (row_total (take p (sections old))) (take (row_total (take (suc p) (sections old))) es))) (joined_parts None old)
    ∙ (ap (λ a. kept_of_section config (drop a (take (row_total (take (suc p) (sections old))) old))) (sym x_is)
    ∙ ap (λ b. kept_of_section config (drop x (take b old))) (sym (e_is ∙ ap (λ n. row_total (take n (sections old))) (add-one p))))) in
    let long : from - x ≤ length rs = omega (arith, before, after, few, length-drop x (take e old), length-take e old) in
    let rows : take (from - x) rs ≡ drop x (take from new) = front_rows old x from e (omega (arith, before)) (omega (arith, after)) ∙ ap (λ (es : List RecordValue). drop x es) same in
    put rs long (front_between old x from e (omega (arith, before)) front) whole ∙ ap (λ (s : List RecordValue). kept_of_section config s ∷ map (kept_of_section config) ss) rows
