-- What is kept of the sections of an edited text.
use Rattle.std.proofs.Common.{◌≡◌, ℕ, suc, ◌+◌, ◌-◌, ◌<◌, ◌≤◌, ◌==◌, ◌&&◌, ltb, ◌⊎◌, Bool, true, false, List, [], ◌∷◌, ◌++◌, length, map, take, drop, Bor, Option, Some, None, refl, ap, sym, ◌∙◌, arith, rules, cond, inl, inr}
use Rattle.std.specs.List.{splice, slice_get}
use Rattle.std.proofs.lemmas.Bool.{cases_eq, cases_lt, eq-eqb, ne_eqb, eqb-true, eqb-false, ltb-true, ltb-false}
use Rattle.std.proofs.lemmas.List.{same_lists, places, take-map, drop-map, map-append, length-map, length-append, take_more, length-take-le, drop-append-le, take_all, length-take, take-append-drop}
use Rattle.std.proofs.lemmas.Option.{slice_get_within, get_or_from_slice_get}
use Rattle.std.proofs.Math.ListN.{drop_of_length-le}
use Rattle.yl_lexeme.specs.declared.lexeme.Kind.{Kind}
use Rattle.yl_config.specs.declared.config.Config.{Config}
use Rattle.yl_record.specs.Records.{RecordValue}
use Rattle.yl_sections.specs.Sections.{Parts, last_kind_from, is_section_start, with_row, parts, sections}
use Rattle.yl_sections.specs.Local.{is_start_at, row_total, all_rows}
use Rattle.yl_sections.specs.Kept.{KeptValue, documents_in, rows_kept}
use Rattle.yl_sections.specs.Judge.{kept_of_section}
use Rattle.yl_sections.proofs.Rows.{seen}
use Rattle.yl_sections.proofs.Local.{sections_local, sections_then, joined_parts, take_joined, drop_joined, front_sections, back_sections}
use Rattle.yl_rejudge.specs.Places.{changed_sections}
use Rattle.yl_sections.proofs.SectionStarts.{starts_past, not_first}

-- ---- rows of sections

few_onto : (b : Bool) (r : RecordValue) (p : Parts) → length (with_row b r p).later ≤ suc (length p.later)
few_onto true r p = omega arith
few_onto false r p = omega arith

few_parts : (last : Option Kind) (rs : List RecordValue) → length (parts last rs).later ≤ length rs
few_parts last [] = omega arith
few_parts last (r ∷ rs) =
    let p = parts (last_kind_from last r.entry.lexemes) rs in
    omega (arith, few_parts (last_kind_from last r.entry.lexemes) rs, few_onto (is_section_start last r.entry.lexemes) r p)

pub few_sections : (rs : List RecordValue) → length (sections rs) ≤ length rs + 1
few_sections rs = omega (arith, few_parts None rs)

rows_judged : (config : Config) (s : List RecordValue) → (kept_of_section config s).rows ≡ length s
unfolding kept_of_section
rows_judged config s = refl

pub rows_whole : (ss : List (List RecordValue)) → row_total ss ≡ length (all_rows ss)
rows_whole [] = refl
rows_whole (s ∷ ss) = ap (λ n. length s + n) (rows_whole ss) ∙ sym (length-append s (all_rows ss))

pub rows_of_sections : (rs : List RecordValue) → row_total (sections rs) ≡ length rs
rows_of_sections rs = rows_whole (sections rs) ∙ ap (λ (es : List RecordValue). length es) (joined_parts None rs)

module _ (config : Config) where
  kept_rows : (ss : List (List RecordValue)) → rows_kept (map (kept_of_section config) ss) ≡ row_total ss
  kept_rows [] = refl
  kept_rows (s ∷ ss) = ap (λ n. n + rows_kept (map (kept_of_section config) ss)) (rows_judged config s) ∙ ap (λ n. length s + n) (kept_rows ss)

  -- all old rows
  pub rows_of_kept : (old : List RecordValue) (kept : List KeptValue) → kept ≡ map (kept_of_section config) (sections old) → rows_kept kept ≡ length old
  rows_of_kept old kept e = ap rows_kept e ∙ (kept_rows (sections old) ∙ rows_of_sections old)

  pub rows_to : (old : List RecordValue) (kept : List KeptValue) (p : ℕ) → kept ≡ map (kept_of_section config) (sections old) → rows_kept (take p kept) ≡ row_total (take p (sections old))
  rows_to old kept p e =
      ap (λ (js : List KeptValue). rows_kept (take p js)) e ∙ (ap rows_kept (take-map (kept_of_section config) p (sections old)) ∙ kept_rows (take p (sections old)))

  pub count_kept : (old : List RecordValue) (kept : List KeptValue) → kept ≡ map (kept_of_section config) (sections old) → length kept ≡ length (sections old)
  count_kept old kept e = ap (λ (js : List KeptValue). length js) e ∙ length-map (sections old) (kept_of_section config)

  pub map-splice : (xs ys : List (List RecordValue)) (p q : ℕ) → splice (map (kept_of_section config) xs) p q (map (kept_of_section config) ys) ≡ map (kept_of_section config) (splice xs p q ys)
  map-splice xs ys p q =
      let f = kept_of_section config in
      sym (map-append f (take p xs) (ys ++ drop q xs)
      ∙ (ap (λ (js : List KeptValue). js ++ map f (ys ++ drop q xs)) (sym (take-map f p xs))
      ∙ (ap (λ (js : List KeptValue). take p (map f xs) ++ js) (map-append f ys (drop q xs) ∙ ap (λ (js : List KeptValue). map f ys ++ js) (sym (drop-map f q xs))))))

  -- from the sections to what is kept of them
  pub kept_spliced : (old new : List RecordValue) (kept ks : List KeptValue) (ss : List (List RecordValue)) (p q : ℕ) → kept ≡ map (kept_of_section config) (sections old) → ks ≡ map (kept_of_section config) ss
      → splice (sections old) p q ss ≡ sections new → splice kept p q ks ≡ map (kept_of_section config) (sections new)
  kept_spliced old new kept ks ss p q is ks_is local =
      ap (λ (js : List KeptValue). splice js p q ks) is
      ∙ (ap (λ (js : List KeptValue). splice (map (kept_of_section config) (sections old)) p q js) ks_is
      ∙ (map-splice (sections old) ss p q ∙ ap (λ (xs : List (List RecordValue)). map (kept_of_section config) xs) local))

-- ---- rows that are the same in both

less : (old new : List RecordValue) (x from : ℕ) → x ≤ from → take from old ≡ take from new → take x old ≡ take x new
less old new x from o e = shorter old ∙ (ap (λ (es : List RecordValue). take x es) e ∙ sym (shorter new)) where
  shorter : (es : List RecordValue) → take x es ≡ take x (take from es)
  shorter es = same_lists _ _ (search (rules, places)) (λ k d h. grind (arith, places))

further : (es : List RecordValue) (m n : ℕ) → m ≤ n → drop n es ≡ drop (n - m) (drop m es)
further es m n o = same_lists _ _ (search (rules, places)) (λ k d h. grind (arith, places))

again : (es : List RecordValue) (m n : ℕ) → drop (m + n) es ≡ drop m (drop n es)
again es m n = same_lists _ _ (search (rules, places)) (λ k d h. grind (arith, places))

later : (old new : List RecordValue) (y old_end end : ℕ) → old_end ≤ y → drop old_end old ≡ drop end new → drop y old ≡ drop (y - old_end + end) new
later old new y old_end end o e = further old old_end y o ∙ (ap (λ (es : List RecordValue). drop (y - old_end) es) e ∙ sym (again new (y - old_end) end))

-- ---- the sections of the new rows

-- p and q sections stay, of the rows before x and from y on; z is y in the new rows
pub record AreCut (old new : List RecordValue) (p q x y z from old_end end : ℕ) : Type 0 where
  pub before : take from old ≡ take from new
  pub behind : drop old_end old ≡ drop end new
  pub front : x ≤ from
  pub ordered : p ≤ q
  pub within : q ≤ length (sections old)
  pub x_is : x ≡ row_total (take p (sections old))
  pub y_is : y ≡ row_total (take q (sections old))
  pub z_is : z ≡ cond (q == length (sections old)) (length new) (y - old_end + end)
  pub first : (p ≡ 0) ⊎ (is_start_at new x ≡ true)
  pub last : (q ≡ length (sections old)) ⊎ ((old_end ≤ y) × (is_start_at new (y - old_end + end) ≡ true))

module _ (old new : List RecordValue) (p q x y z from old_end end : ℕ) (c : AreCut old new p q x y z from old_end end) where
  pub same_front : take x old ≡ take x new
  same_front = less old new x from c.front c.before

  to_end : q ≡ length (sections old) → (drop y old ≡ drop z new) × ((q ≡ length (sections old)) ⊎ (is_start_at new z ≡ true))
  to_end e =
      let at : z ≡ length new = c.z_is ∙ ap (λ (t : Bool). cond t (length new) (y - old_end + end)) (eq-eqb q (length (sections old)) e) in
      let all : y ≡ length old = c.y_is ∙ (ap row_total (take_all q (sections old) (omega (arith, e))) ∙ rows_of_sections old) in
      (drop_of_length-le old {i = y} (omega (arith, all)) ∙ sym (drop_of_length-le new {i = z} (omega (arith, at))), inl e)

  before_end : (q ≡ length (sections old) → ⊥) → (old_end ≤ y) × (is_start_at new (y - old_end + end) ≡ true) → (drop y old ≡ drop z new) × ((q ≡ length (sections old)) ⊎ (is_start_at new z ≡ true))
  before_end d h =
      let at : z ≡ y - old_end + end = c.z_is ∙ ap (λ (t : Bool). cond t (length new) (y - old_end + end)) (ne_eqb q (length (sections old)) d) in
      (later old new y old_end end h.0 c.behind ∙ ap (λ k. drop k new) (sym at), inr (ap (λ k. is_start_at new k) at ∙ h.1))

  pub ends : (drop y old ≡ drop z new) × ((q ≡ length (sections old)) ⊎ (is_start_at new z ≡ true))
  ends = elim (cases_eq q (length (sections old))) [
    | inl e ↦ to_end e
    | inr d ↦ elim c.last [ inl e ↦ to_end e | inr h ↦ before_end d h ]
  ]

  -- rows are judged
  pub some_judged : x < z → splice (sections old) p q (sections (drop x (take z new))) ≡ sections new
  some_judged some = sections_local old new p q x y z c.ordered c.within c.x_is c.y_is some same_front ends.0 c.first ends.1

  z_within : (q ≡ length (sections old)) ⊎ (is_start_at new z ≡ true) → z ≤ length new
  z_within (inl e) =
      let at : z ≡ length new = c.z_is ∙ ap (λ (t : Bool). cond t (length new) (y - old_end + end)) (eq-eqb q (length (sections old)) e) in omega (arith, at)
  z_within (inr b) = elim (cases_lt z (length new)) [
    | inl l ↦ omega (arith, l)
    | inr l ↦ let e : is_start_at new z ≡ false = starts_past None new z (omega (arith, l)) in absurd (cc)
  ]

  pub within_new : z ≤ length new
  within_new = z_within ends.1

  rows_front : take x new ≡ all_rows (take p (sections old))
  rows_front =
      sym same_front
      ∙ (ap (λ n. take n old) c.x_is ∙ (ap (λ (es : List RecordValue). take (row_total (take p (sections old))) es) (sym (joined_parts None old)) ∙ take_joined (sections old) p))

  rows_back : drop z new ≡ all_rows (drop q (sections old))
  rows_back =
      sym ends.0
      ∙ (ap (λ n. drop n old) c.y_is ∙ (ap (λ (es : List RecordValue). drop (row_total (take q (sections old))) es) (sym (joined_parts None old)) ∙ drop_joined (sections old) q))

  started : 0 < p → (p ≡ 0) ⊎ (is_start_at new x ≡ true) → is_start_at new x ≡ true
  started l (inl e) = absurd (omega (arith, l, e))
  started l (inr b) = b

  -- a section begins at z, so it is no end
  goes_on : x ≡ z → is_start_at new x ≡ true → (q ≡ length (sections old)) ⊎ (q ≡ length (sections old) → ⊥) → q < length (sections old)
  goes_on e b (inr d) = omega (arith, d, c.within)
  goes_on e b (inl h) =
      let at : z ≡ length new = c.z_is ∙ ap (λ (t : Bool). cond t (length new) (y - old_end + end)) (eq-eqb q (length (sections old)) h) in
      let past : is_start_at new x ≡ false = starts_past None new x (omega (arith, e, at)) in
      absurd (cc)

  -- none are judged: rows went alone
  pub none_judged : x ≡ z → 0 < p → splice (sections old) p q [] ≡ sections new
  none_judged e some =
      let b = started some c.first in
      let l = goes_on e b (cases_eq q (length (sections old))) in
      let front : sections (take x new) ≡ take p (sections old) = ap sections rows_front ∙ front_sections old p some in
      let back : sections (drop x new) ≡ drop q (sections old) = ap (λ n. sections (drop n new)) e ∙ (ap sections rows_back ∙ back_sections old q l) in
      sym (ap sections (sym (take-append-drop x new))
      ∙ (sections_then (take x new) (drop x new) b
      ∙ (ap (λ (ss : List (List RecordValue)). ss ++ sections (drop x new)) front ∙ ap (λ (ss : List (List RecordValue)). take p (sections old) ++ ss) back)))

  no_rows : x ≡ z → drop x (take z new) ≡ []
  no_rows e = drop_of_length-le (take z new) {i = x} (omega (arith, length-take z new, e))

  -- a text without rows
  no_text : x ≡ z → p ≡ 0 → splice (sections old) p q (sections (drop x (take z new))) ≡ sections new
  no_text e s =
      let start : x ≡ 0 = c.x_is ∙ ap (λ n. row_total (take n (sections old))) s in
      let at : z ≡ 0 = sym e ∙ start in
      let all : q ≡ length (sections old) = elim ends.1 [
        | inl h ↦ h
        | inr b ↦ let f : true ≡ false = sym b ∙ (ap (λ n. is_start_at new n) at ∙ not_first new) in absurd (cc)
      ] in
      let is : z ≡ length new = c.z_is ∙ ap (λ (t : Bool). cond t (length new) (y - old_end + end)) (eq-eqb q (length (sections old)) all) in
      let none : drop q (sections old) ≡ [] = drop_of_length-le (sections old) {i = q} (omega (arith, all)) in
      let empty : drop 0 new ≡ [] = drop_of_length-le new {i = 0} (omega (arith, is, at)) in
      ap (λ n. take n (sections old) ++ (sections (drop x (take z new)) ++ drop q (sections old))) s
      ∙ (ap (λ (rs : List RecordValue). sections rs ++ drop q (sections old)) (no_rows e)
      ∙ (ap (λ (ss : List (List RecordValue)). sections [] ++ ss) none ∙ ap sections (sym empty)))

  -- the sections that are judged, or none
  changed_is : (t u : Bool) → x ≤ z → ltb 0 p ≡ t → (x == z) ≡ u → splice (sections old) p q (cond (t && u) [] (sections (drop x (take z new)))) ≡ sections new
  changed_is true true o a b = none_judged (eqb-true x z b) (ltb-true 0 p a)
  changed_is true false o a b = some_judged (let n = eqb-false x z b in omega (arith, o, n))
  changed_is false u o a b = elim (cases_lt x z) [
    | inl l ↦ some_judged l
    | inr l ↦ no_text (omega (arith, o, l)) (let n = ltb-false 0 p a in omega (arith, n))
  ]

  pub changed : x ≤ z → splice (sections old) p q (changed_sections p x z new) ≡ sections new
  changed o = changed_is (ltb 0 p) (x == z) o refl refl

-- no rows, no document
none_by : (t : Bool) (rs : List RecordValue) → rs ≡ [] → documents_in (cond t [] (sections rs)) ≡ 0
none_by true rs e = refl
none_by false rs e = ap (λ (es : List RecordValue). documents_in (sections es)) e

pub changed_none : (p x z : ℕ) (new : List RecordValue) → x ≡ z → documents_in (changed_sections p x z new) ≡ 0
changed_none p x z new e = none_by (ltb 0 p && (x == z)) (drop x (take z new)) (drop_of_length-le (take z new) {i = x} (omega (arith, length-take z new, e)))

some_by : (t u : Bool) (ss : List (List RecordValue)) → u ≡ false → cond (t && u) [] ss ≡ ss
some_by true true ss e = absurd (cc)
some_by true false ss e = refl
some_by false u ss e = refl

pub changed_some : (p x z : ℕ) (new : List RecordValue) → x < z → changed_sections p x z new ≡ sections (drop x (take z new))
changed_some p x z new l = some_by (ltb 0 p) (x == z) (sections (drop x (take z new))) (ne_eqb x z (λ e. omega (arith, l, e)))

-- ---- records that are lent

pub between_more : (xs new : List (Bor RecordValue)) (es : List RecordValue) (x i : ℕ) (r : Bor RecordValue) → x ≤ i → new ≡ xs ++ r ∷ [] → seen xs ≡ drop x (take i es) → slice_get es i ≡ Some r.now → seen new ≡ drop x (take (i + 1) es)
between_more xs new es x i r o is before at =
    let l : i < length es = slice_get_within es i r.now at in
    let more : take (i + 1) es ≡ take i es ++ r.now ∷ [] = take_more es i r.now l ∙ ap (λ (e : RecordValue). take i es ++ e ∷ []) (get_or_from_slice_get es i r.now r.now at) in
    ap (λ (ys : List (Bor RecordValue)). seen ys) is
    ∙ (map-append (λ (b : Bor RecordValue). b.now) xs (r ∷ [])
    ∙ (ap (λ (ys : List RecordValue). ys ++ r.now ∷ []) before
    ∙ sym (ap (λ (ys : List RecordValue). drop x ys) more ∙ drop-append-le x (take i es) (r.now ∷ []) (omega (arith, length-take-le i es (omega (arith, l)), o)))))
