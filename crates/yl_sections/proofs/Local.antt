-- Sections are cut by what stands near.
use Rattle.std.proofs.Common.{◌≡◌, ℕ, zero, suc, ◌<◌, ◌≤◌, Bool, true, false, List, [], ◌∷◌, ◌++◌, length, take, drop, Option, None, refl, ap, sym, ◌∙◌, arith, append_assoc, append-nil, inl, inr, ◌-◌, ◌⊎◌, rules}
use Rattle.std.proofs.lemmas.Bool.{cases_lt}
use Rattle.std.proofs.lemmas.List.{take-append-drop, same_lists, places}
use Rattle.std.proofs.Math.Seq.{drop-append-add, take-append-add}
use Rattle.std.proofs.Math.ListN.{drop_of_length-le}
use Rattle.std.specs.List.{splice}
use Rattle.yl_lexeme.specs.declared.lexeme.Kind.{Kind}
use Rattle.yl_record.specs.Records.{RecordValue}
use Rattle.yl_sections.specs.Sections.{Parts, last_kind_from, is_section_start, with_row, parts, all_parts, sections}
use Rattle.yl_sections.proofs.Cuts.{last_anew, none_begins}
use Rattle.yl_sections.specs.Local.{kind_after, begins_section, is_start_at, row_total, all_rows}

-- rows that begin a section, after others
anew : (last : Option Kind) (ys : List RecordValue) → begins_section last ys ≡ true → parts last ys ≡ record { here = []; later = sections ys }
anew last [] b = absurd (cc)
anew last (y ∷ ys) b =
    ap (λ (t : Bool). with_row t y (parts (last_kind_from last y.entry.lexemes) ys)) b
    ∙ (ap (λ (l : Option Kind). with_row true y (parts l ys)) (last_anew last y.entry.lexemes b)
    ∙ ap (λ (t : Bool). let p : Parts = record { here = []; later = all_parts (with_row t y (parts (last_kind_from None y.entry.lexemes) ys)) } in p) (sym (none_begins y.entry.lexemes)))

-- with further sections
abbrev and_then : Parts → List (List RecordValue) → Parts
and_then p ss = record { here = p.here; later = p.later ++ ss }

onto_then : (b : Bool) (e : RecordValue) (p : Parts) (ss : List (List RecordValue)) → with_row b e (and_then p ss) ≡ and_then (with_row b e p) ss
onto_then true e p ss = refl
onto_then false e p ss = refl

parted_then : (last : Option Kind) (xs ys : List RecordValue) → begins_section (kind_after last xs) ys ≡ true → parts last (xs ++ ys) ≡ and_then (parts last xs) (sections ys)
parted_then last [] ys b = anew last ys b
parted_then last (x ∷ xs) ys b =
    ap (λ (p : Parts). with_row (is_section_start last x.entry.lexemes) x p) (parted_then (last_kind_from last x.entry.lexemes) xs ys b)
    ∙ onto_then (is_section_start last x.entry.lexemes) x (parts (last_kind_from last x.entry.lexemes) xs) (sections ys)

-- sections of rows and of rows after them that begin one
pub sections_then : (xs ys : List RecordValue) → begins_section (kind_after None xs) ys ≡ true → sections (xs ++ ys) ≡ sections xs ++ sections ys
sections_then xs ys b = ap all_parts (parted_then None xs ys b)

-- the rows are those of their sections
onto_joined : (b : Bool) (e : RecordValue) (p : Parts) (es : List RecordValue) → all_rows (all_parts p) ≡ es → all_rows (all_parts (with_row b e p)) ≡ e ∷ es
onto_joined true e p es h = ap (λ (xs : List RecordValue). e ∷ xs) h
onto_joined false e p es h = ap (λ (xs : List RecordValue). e ∷ xs) h

pub joined_parts : (last : Option Kind) (es : List RecordValue) → all_rows (all_parts (parts last es)) ≡ es
joined_parts last [] = refl
joined_parts last (e ∷ es) = onto_joined (is_section_start last e.entry.lexemes) e (parts (last_kind_from last e.entry.lexemes) es) es (joined_parts (last_kind_from last e.entry.lexemes) es)

-- the first sections are those of their rows
abbrev cut : Parts → ℕ → Parts
cut p n = record { here = p.here; later = take n p.later }

abbrev FrontHolds : Option Kind → List RecordValue → Parts → Type 0
FrontHolds last es p = (n : ℕ) → parts last (p.here ++ all_rows (take n p.later)) ≡ cut p n

front_onto : (last : Option Kind) (b : Bool) (e : RecordValue) (es : List RecordValue) (p : Parts) → is_section_start last e.entry.lexemes ≡ b → FrontHolds (last_kind_from last e.entry.lexemes) es p → FrontHolds last (e ∷ es) (with_row b e p)
front_onto last true e es p b h zero = refl
front_onto last true e es p b h (suc n) = ap (λ (q : Parts). with_row (is_section_start last e.entry.lexemes) e q) (h n) ∙ ap (λ (t : Bool). with_row t e (cut p n)) b
front_onto last false e es p b h n = ap (λ (q : Parts). with_row (is_section_start last e.entry.lexemes) e q) (h n) ∙ ap (λ (t : Bool). with_row t e (cut p n)) b

front : (last : Option Kind) (es : List RecordValue) → FrontHolds last es (parts last es)
front last [] zero = refl
front last [] (suc n) = refl
front last (e ∷ es) n = front_onto last (is_section_start last e.entry.lexemes) e es (parts (last_kind_from last e.entry.lexemes) es) refl (front (last_kind_from last e.entry.lexemes) es) n

-- the last sections are those of their rows
abbrev BackHolds : Parts → Type 0
BackHolds p = (n : ℕ) → n < length p.later → sections (all_rows (drop n p.later)) ≡ drop n p.later

back_onto : (last : Option Kind) (b : Bool) (e : RecordValue) (es : List RecordValue) (p : Parts) → is_section_start last e.entry.lexemes ≡ b → p ≡ parts (last_kind_from last e.entry.lexemes) es → BackHolds p → BackHolds (with_row b e p)
back_onto last true e es p b is h zero l =
    let rows : p.here ++ all_rows p.later ≡ es = ap (λ (q : Parts). all_rows (all_parts q)) is ∙ joined_parts (last_kind_from last e.entry.lexemes) es in
    ap (λ (xs : List RecordValue). sections (e ∷ xs)) rows
    ∙ (ap (λ (t : Bool). all_parts (with_row t e (parts (last_kind_from None e.entry.lexemes) es))) (none_begins e.entry.lexemes)
    ∙ (ap (λ (k : Option Kind). all_parts (with_row false e (parts k es))) (sym (last_anew last e.entry.lexemes b))
    ∙ ap (λ (q : Parts). all_parts (with_row false e q)) (sym is)))
back_onto last true e es p b is h (suc n) l = h n (omega (arith, l))
back_onto last false e es p b is h n l = h n l

back : (last : Option Kind) (es : List RecordValue) → BackHolds (parts last es)
back last [] n l = absurd (omega (arith, l))
back last (e ∷ es) n l = back_onto last (is_section_start last e.entry.lexemes) e es (parts (last_kind_from last e.entry.lexemes) es) refl refl (back (last_kind_from last e.entry.lexemes) es) n l

-- ---- places

pub take_joined : (ss : List (List RecordValue)) (p : ℕ) → take (row_total (take p ss)) (all_rows ss) ≡ all_rows (take p ss)
take_joined ss zero = refl
take_joined [] (suc p) = refl
take_joined (s ∷ ss) (suc p) = take-append-add s (all_rows ss) (row_total (take p ss)) ∙ ap (λ (xs : List RecordValue). s ++ xs) (take_joined ss p)

pub drop_joined : (ss : List (List RecordValue)) (p : ℕ) → drop (row_total (take p ss)) (all_rows ss) ≡ all_rows (drop p ss)
drop_joined ss zero = refl
drop_joined [] (suc p) = refl
drop_joined (s ∷ ss) (suc p) = drop-append-add s (all_rows ss) (row_total (take p ss)) ∙ drop_joined ss p

-- the first sections are those of the first rows
pub front_sections : (old : List RecordValue) (p : ℕ) → 0 < p → sections (all_rows (take p (sections old))) ≡ take p (sections old)
front_sections old zero l = absurd (omega (arith, l))
front_sections old (suc p) l = ap all_parts (front None old p)

pub back_sections : (old : List RecordValue) (q : ℕ) → q < length (sections old) → sections (all_rows (drop q (sections old))) ≡ drop q (sections old)
back_sections old zero l = ap sections (joined_parts None old)
back_sections old (suc q) l = back None old q (omega (arith, l))

starts_front : (last : Option Kind) (ys : List RecordValue) (n : ℕ) → 0 < n → begins_section last (take n ys) ≡ begins_section last ys
starts_front last [] zero l = refl
starts_front last [] (suc n) l = refl
starts_front last (y ∷ ys) zero l = absurd (omega (arith, l))
starts_front last (y ∷ ys) (suc n) l = refl

take_take : (xs : List RecordValue) (x z : ℕ) → x ≤ z → take x (take z xs) ≡ take x xs
take_take xs x z o = same_lists _ _ (search (rules, places)) (λ k d h. grind (arith, places))

drop_take : (xs : List RecordValue) (x z : ℕ) → x ≤ z → drop x (take z xs) ≡ take (z - x) (drop x xs)
drop_take xs x z o = same_lists _ _ (search (rules, places)) (λ k d h. grind (arith, places))

module _ (old new : List RecordValue) (p q x y z : ℕ) (ordered : p ≤ q) (within : q ≤ length (sections old)) (x_is : x ≡ row_total (take p (sections old))) (y_is : y ≡ row_total (take q (sections old)))
    (some : x < z) (before : take x old ≡ take x new) (behind : drop y old ≡ drop z new) where
  -- the rows before and after, from the old sections
  rows_before : take x new ≡ all_rows (take p (sections old))
  rows_before = sym before ∙ (ap (λ n. take n old) x_is ∙ (ap (λ (es : List RecordValue). take (row_total (take p (sections old))) es) (sym (joined_parts None old)) ∙ take_joined (sections old) p))

  rows_behind : drop z new ≡ all_rows (drop q (sections old))
  rows_behind = sym behind ∙ (ap (λ n. drop n old) y_is ∙ (ap (λ (es : List RecordValue). drop (row_total (take q (sections old))) es) (sym (joined_parts None old)) ∙ drop_joined (sections old) q))

  to_end : q ≡ length (sections old) → sections new ≡ sections (take z new) ++ drop q (sections old)
  to_end e =
      let none : drop q (sections old) ≡ [] = drop_of_length-le (sections old) {i = q} (omega (arith, e)) in
      let rows : drop z new ≡ [] = rows_behind ∙ ap all_rows none in
      ap sections (sym (sym (ap (λ (es : List RecordValue). take z new ++ es) rows ∙ append-nil (take z new)) ∙ take-append-drop z new))
      ∙ (sym (append-nil (sections (take z new))) ∙ ap (λ (ss : List (List RecordValue)). sections (take z new) ++ ss) (sym none))

  with_behind : (q ≡ length (sections old)) ⊎ (is_start_at new z ≡ true) → sections new ≡ sections (take z new) ++ drop q (sections old)
  with_behind (inl e) = to_end e
  with_behind (inr b) = elim (cases_lt q (length (sections old))) [
    | inl l ↦ ap sections (sym (take-append-drop z new)) ∙ (sections_then (take z new) (drop z new) b ∙ ap (λ (ss : List (List RecordValue)). sections (take z new) ++ ss) (ap sections rows_behind ∙ back_sections old q l))
    | inr l ↦ to_end (omega (arith, l, within))
  ]

  from_start : p ≡ 0 → sections (take z new) ≡ take p (sections old) ++ sections (drop x (take z new))
  from_start e =
      let at : x ≡ 0 = x_is ∙ ap (λ n. row_total (take n (sections old))) e in
      sym (ap (λ n. take n (sections old) ++ sections (drop x (take z new))) e ∙ ap (λ n. sections (drop n (take z new))) at)

  with_before : (p ≡ 0) ⊎ (is_start_at new x ≡ true) → sections (take z new) ≡ take p (sections old) ++ sections (drop x (take z new))
  with_before (inl e) = from_start e
  with_before (inr b) = elim (cases_lt 0 p) [
    | inl l ↦
        let same : take x (take z new) ≡ take x new = take_take new x z (omega (arith, some)) in
        let starts_here : begins_section (kind_after None (take x (take z new))) (drop x (take z new)) ≡ true =
        ap (λ (es : List RecordValue). begins_section (kind_after None es) (drop x (take z new))) same
        ∙ (ap (λ (es : List RecordValue). begins_section (kind_after None (take x new)) es) (drop_take new x z (omega (arith, some)))
        ∙ (starts_front (kind_after None (take x new)) (drop x new) (z - x) (omega (arith, some)) ∙ b)) in
        ap sections (sym (take-append-drop x (take z new)))
        ∙ (sections_then (take x (take z new)) (drop x (take z new)) starts_here
        ∙ ap (λ (ss : List (List RecordValue)). ss ++ sections (drop x (take z new))) (ap sections (same ∙ rows_before) ∙ front_sections old p l))
    | inr l ↦ from_start (omega (arith, l))
  ]

  pub sections_local : (p ≡ 0) ⊎ (is_start_at new x ≡ true) → (q ≡ length (sections old)) ⊎ (is_start_at new z ≡ true) → splice (sections old) p q (sections (drop x (take z new))) ≡ sections new
  sections_local b e =
      sym (with_behind e ∙ (ap (λ (ss : List (List RecordValue)). ss ++ drop q (sections old)) (with_before b) ∙ append_assoc (take p (sections old)) (sections (drop x (take z new))) (drop q (sections old))))
