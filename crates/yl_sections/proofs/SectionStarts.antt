-- The rows with which sections begin.
use Rattle.std.proofs.Common.{◌≡◌, ℕ, zero, suc, ◌+◌, ◌<◌, ◌≤◌, Bool, true, false, List, [], ◌∷◌, length, take, drop, Option, None, refl, ap, sym, ◌∙◌, arith, zero-add}
use Rattle.std.specs.List.{AllByRecursion}
use Rattle.yl_lexeme.specs.declared.lexeme.Kind.{Kind}
use Rattle.yl_lexeme.specs.Lexeme.{LexemeValue}
use Rattle.yl_record.specs.Records.{RecordValue}
use Rattle.yl_sections.specs.Sections.{Parts, last_kind_from, is_section_start, with_row, parts, sections}
use Rattle.yl_sections.proofs.Cuts.{none_begins}
use Rattle.yl_sections.specs.Local.{kind_after, begins_section, is_start_at, row_total}

-- a section begins with the row of this index, where the last lexeme before them is of this kind
abbrev pub starts_after : Option Kind → List RecordValue → ℕ → Bool
starts_after last rs i = begins_section (kind_after last (take i rs)) (drop i rs)

-- ---- sections begin where they begin in their list

abbrev StartsAreThere : Option Kind → List RecordValue → Parts → Type 0
StartsAreThere last rs p = (n : ℕ) → n < length p.later → starts_after last rs (length p.here + row_total (take n p.later)) ≡ true

starts_onto : (last : Option Kind) (b : Bool) (r : RecordValue) (rs : List RecordValue) (p : Parts) → is_section_start last r.entry.lexemes ≡ b
    → StartsAreThere (last_kind_from last r.entry.lexemes) rs p → StartsAreThere last (r ∷ rs) (with_row b r p)
starts_onto last true r rs p b h zero l = b
starts_onto last true r rs p b h (suc n) l =
    let e : 0 + (suc (length p.here) + row_total (take n p.later)) ≡ suc (length p.here + row_total (take n p.later)) = omega arith in
    ap (λ i. starts_after last (r ∷ rs) i) e ∙ h n (omega (arith, l))
starts_onto last false r rs p b h n l =
    let e : suc (length p.here) + row_total (take n p.later) ≡ suc (length p.here + row_total (take n p.later)) = omega arith in
    ap (λ i. starts_after last (r ∷ rs) i) e ∙ h n l

starts_are_there : (last : Option Kind) (rs : List RecordValue) → StartsAreThere last rs (parts last rs)
starts_are_there last [] n l = absurd (omega (arith, l))
starts_are_there last (r ∷ rs) n l =
    starts_onto last (is_section_start last r.entry.lexemes) r rs (parts (last_kind_from last r.entry.lexemes) rs) refl (starts_are_there (last_kind_from last r.entry.lexemes) rs) n l

pub start_there : (rs : List RecordValue) (j : ℕ) → 0 < j → j < length (sections rs) → is_start_at rs (row_total (take j (sections rs))) ≡ true
start_there rs zero s l = absurd (omega (arith, s))
start_there rs (suc n) s l = starts_are_there None rs n (omega (arith, l))

-- ---- and nowhere else

record IsStartOf (p : Parts) (i : ℕ) : Type 0 where
  n : ℕ
  within : n < length p.later
  at : i ≡ length p.here + row_total (take n p.later)

found_here : (b : Bool) (r : RecordValue) (p : Parts) → b ≡ true → IsStartOf (with_row b r p) 0
found_here true r p e = record { n = 0; within = omega arith; at = refl }
found_here false r p e = absurd (cc)

found_later : (b : Bool) (r : RecordValue) (p : Parts) (i : ℕ) → IsStartOf p i → IsStartOf (with_row b r p) (suc i)
found_later true r p i h = record { n = suc h.n; within = omega (arith, h.within); at = omega (arith, h.at) }
found_later false r p i h = record { n = h.n; within = h.within; at = omega (arith, h.at) }

found : (last : Option Kind) (rs : List RecordValue) (i : ℕ) → starts_after last rs i ≡ true → IsStartOf (parts last rs) i
found last [] zero e = absurd (cc)
found last [] (suc i) e = absurd (cc)
found last (r ∷ rs) zero e = found_here (is_section_start last r.entry.lexemes) r (parts (last_kind_from last r.entry.lexemes) rs) e
found last (r ∷ rs) (suc i) e =
    found_later (is_section_start last r.entry.lexemes) r (parts (last_kind_from last r.entry.lexemes) rs) i (found (last_kind_from last r.entry.lexemes) rs i e)

-- so many rows come before one of these sections, which is not the first
pub record IsPlaceIn (ss : List (List RecordValue)) (i : ℕ) : Type 0 where
  pub j : ℕ
  pub some : 0 < j
  pub within : j < length ss
  pub at : i ≡ row_total (take j ss)

pub start_found : (rs : List RecordValue) (i : ℕ) → is_start_at rs i ≡ true → IsPlaceIn (sections rs) i
start_found rs i e = let h = found None rs i e in record { j = suc h.n; some = omega arith; within = omega (arith, h.within); at = h.at }

-- ---- no section but the first is empty

abbrev HaveRows : Parts → Type 0
HaveRows p = (n : ℕ) → n < length p.later → row_total (take n p.later) < row_total (take (suc n) p.later)

rows_onto : (b : Bool) (r : RecordValue) (p : Parts) → HaveRows p → HaveRows (with_row b r p)
rows_onto true r p h zero l = omega arith
rows_onto true r p h (suc n) l = omega (arith, h n (omega (arith, l)))
rows_onto false r p h n l = h n l

have_rows : (last : Option Kind) (rs : List RecordValue) → HaveRows (parts last rs)
have_rows last [] n l = absurd (omega (arith, l))
have_rows last (r ∷ rs) n l = rows_onto (is_section_start last r.entry.lexemes) r (parts (last_kind_from last r.entry.lexemes) rs) (have_rows (last_kind_from last r.entry.lexemes) rs) n l

-- rows before sections, of which one is behind the other
pub rows_ordered : (ss : List (List RecordValue)) (j k : ℕ) → j ≤ k → row_total (take j ss) ≤ row_total (take k ss)
rows_ordered [] zero zero o = omega arith
rows_ordered [] zero (suc k) o = omega arith
rows_ordered [] (suc j) zero o = absurd (omega (arith, o))
rows_ordered [] (suc j) (suc k) o = omega arith
rows_ordered (s ∷ ss) zero k o = omega arith
rows_ordered (s ∷ ss) (suc j) zero o = absurd (omega (arith, o))
rows_ordered (s ∷ ss) (suc j) (suc k) o = omega (arith, rows_ordered ss j k (omega (arith, o)))

pub rows_apart : (rs : List RecordValue) (j k : ℕ) → 0 < j → j < k → k ≤ length (sections rs) → row_total (take j (sections rs)) < row_total (take k (sections rs))
rows_apart rs zero k s o l = absurd (omega (arith, s))
rows_apart rs (suc n) zero s o l = absurd (omega (arith, o))
rows_apart rs (suc n) (suc k) s o l =
    let p = parts None rs in
    omega (arith, have_rows None rs n (omega (arith, o, l)), rows_ordered p.later (suc n) k (omega (arith, o)))

pub not_first : (rs : List RecordValue) → is_start_at rs 0 ≡ false
not_first [] = refl
not_first (r ∷ rs) = none_begins r.entry.lexemes

-- ---- starts before an edit

pub front_same : (last : Option Kind) (rs : List RecordValue) (from i : ℕ) → i < from → starts_after last (take from rs) i ≡ starts_after last rs i
front_same last rs zero i l = absurd (omega (arith, l))
front_same last [] (suc from) i l = refl
front_same last (r ∷ rs) (suc from) zero l = refl
front_same last (r ∷ rs) (suc from) (suc i) l = front_same (last_kind_from last r.entry.lexemes) rs from i (omega (arith, l))

pub same_before : (old new : List RecordValue) (from i : ℕ) → take from old ≡ take from new → i < from → is_start_at old i ≡ is_start_at new i
same_before old new from i e l =
    sym (front_same None old from i l) ∙ (ap (λ (rs : List RecordValue). starts_after None rs i) e ∙ front_same None new from i l)

-- ---- starts after an edit

none_after : (last : Option Kind) (i : ℕ) → starts_after last [] i ≡ false
none_after last zero = refl
none_after last (suc i) = refl

pub starts_past : (last : Option Kind) (rs : List RecordValue) (i : ℕ) → length rs ≤ i → starts_after last rs i ≡ false
starts_past last [] i l = none_after last i
starts_past last (r ∷ rs) zero l = absurd (omega (arith, l))
starts_past last (r ∷ rs) (suc i) l = starts_past (last_kind_from last r.entry.lexemes) rs i (omega (arith, l))

quiet_row : (last : Option Kind) (xs : List LexemeValue) → xs ≡ [] → is_section_start last xs ≡ false
quiet_row last [] e = refl
quiet_row last (x ∷ xs) e = absurd (cc)

-- rows without lexemes begin none
pub quiet : (last : Option Kind) (rs : List RecordValue) (i : ℕ) → AllByRecursion (λ r. r.entry.lexemes ≡ []) rs → starts_after last rs i ≡ false
quiet last [] i h = none_after last i
quiet last (r ∷ rs) zero h = quiet_row last r.entry.lexemes h.0
quiet last (r ∷ rs) (suc i) h = quiet (last_kind_from last r.entry.lexemes) rs i h.1

-- by the rows from one on
pub from_row : (last : Option Kind) (rs : List RecordValue) (e d : ℕ) → starts_after last rs (e + d) ≡ starts_after (kind_after last (take e rs)) (drop e rs) d
from_row last rs zero d = ap (λ i. starts_after last rs i) (zero-add d)
from_row last [] (suc e) d = none_after last (suc e + d) ∙ sym (none_after last d)
from_row last (r ∷ rs) (suc e) d =
    let n : suc e + d ≡ suc (e + d) = omega arith in
    ap (λ i. starts_after last (r ∷ rs) i) n ∙ from_row (last_kind_from last r.entry.lexemes) rs e d
