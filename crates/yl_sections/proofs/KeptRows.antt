-- What stands before a row, and rows of what is kept of sections.
use Rattle.std.proofs.Common.{◌≡◌, ℕ, zero, suc, ◌+◌, ◌-◌, ◌<◌, ◌≤◌, ◌↔◌, Bool, true, false, IsTrue, List, [], ◌∷◌, length, take, drop, get_or, Option, Some, None, refl, ap, sym, ◌∙◌, arith, add-one, inl, inr, subst}
use Rattle.std.proofs.lemmas.Bool.{cases_lt}
use Rattle.std.proofs.lemmas.Option.{get_or_from_slice_get}
use Rattle.std.specs.List.{slice_get}
use Rattle.yl_lexeme.specs.declared.lexeme.Kind.{Kind}
use Rattle.yl_lexeme.specs.Lexeme.{LexemeValue}
use Rattle.yl_record.specs.Records.{RecordValue}
use Rattle.yl_sections.specs.Sections.{last_kind_from, is_section_start}
use Rattle.yl_sections.specs.Kept.{KeptValue, rows_kept}
use Rattle.yl_sections.specs.Local.{kind_after, begins_section}

pub last_step : (last : Option Kind) (es : List RecordValue) (r : ℕ) (e : RecordValue) → slice_get es r ≡ Some e → kind_after last (take (r + 1) es) ≡ last_kind_from (kind_after last (take r es)) e.entry.lexemes
last_step last [] r e h = cc
last_step last (x ∷ es) zero e h = let same : x ≡ e = cc in ap (λ (y : RecordValue). last_kind_from last y.entry.lexemes) same
last_step last (x ∷ es) (suc r) e h = rw (add-one (suc r)) (ap (λ n. kind_after (last_kind_from last x.entry.lexemes) (take n es)) (sym (add-one r)) ∙ last_step (last_kind_from last x.entry.lexemes) es r e h)

pub last_none : (last : Option Kind) (xs : List LexemeValue) → ¬ (0 < length xs) → last_kind_from last xs ≡ last
last_none last [] l = refl
last_none last (x ∷ xs) l = absurd (l (omega arith))

pub last_some : (last : Option Kind) (xs : List LexemeValue) → 0 < length xs → last_kind_from last xs ≡ last_kind_from None xs
last_some last [] l = absurd (omega (arith, l))
last_some last (x ∷ xs) l = refl

pub starts_here : (last : Option Kind) (es : List RecordValue) (i : ℕ) (e : RecordValue) → slice_get es i ≡ Some e → begins_section last (drop i es) ≡ is_section_start last e.entry.lexemes
starts_here last [] i e h = cc
starts_here last (x ∷ es) zero e h = let same : x ≡ e = cc in ap (λ (y : RecordValue). is_section_start last y.entry.lexemes) same
starts_here last (x ∷ es) (suc i) e h = starts_here last es i e h

pub starts_past : (last : Option Kind) (es : List RecordValue) (i : ℕ) → length es ≤ i → begins_section last (drop i es) ≡ false
starts_past last [] zero l = refl
starts_past last [] (suc i) l = refl
starts_past last (x ∷ es) zero l = absurd (omega (arith, l))
starts_past last (x ∷ es) (suc i) l = starts_past last es i (omega (arith, l))

pub got : (js : List KeptValue) (i : ℕ) (j : KeptValue) → slice_get js i ≡ Some j → j ≡ get_or js i j
got js i j h = sym (get_or_from_slice_get js i j j h)

pub rows_more : (js : List KeptValue) (i : ℕ) (j : KeptValue) → i < length js → j ≡ get_or js i j → rows_kept (take (i + 1) js) ≡ rows_kept (take i js) + j.rows
rows_more [] i j l e = absurd (omega (arith, l))
rows_more (k ∷ js) zero j l e = let same : k.rows ≡ j.rows = ap (λ (x : KeptValue). x.rows) (sym e) in omega (arith, same)
rows_more (k ∷ js) (suc i) j l e = rw (add-one (suc i)) (let h : rows_kept (take (suc i) js) ≡ rows_kept (take i js) + j.rows = ap (λ n. rows_kept (take n js)) (sym (add-one i)) ∙ rows_more js i j (omega (arith, l)) e in omega (arith, h))

pub rows_front : (js : List KeptValue) (i : ℕ) → rows_kept (take i js) ≤ rows_kept js
rows_front js zero = omega arith
rows_front [] (suc i) = omega arith
rows_front (k ∷ js) (suc i) = omega (arith, rows_front js i)

-- ---- sections that are passed

-- one section back
pub passed_back : (starts : ℕ → Bool) (s top : ℕ) → 0 < s → starts s ≡ false → ((j : ℕ) → s < j → j ≤ top → starts j ≡ false) → (j : ℕ) → s - 1 < j → j ≤ top → starts j ≡ false
passed_back starts s top some here passed j l o = elim (cases_lt s j) [
  | inl m ↦ passed j m o
  | inr m ↦ let e : j ≡ s = omega (arith, m, l, some) in ap starts e ∙ here
]

-- one section on
pub passed_on : (P : ℕ → Type 0) (starts : ℕ → Bool) (s low : ℕ) → (P s → starts s ≡ false) → ((j : ℕ) → low ≤ j → j < s → P j → starts j ≡ false)
    → (j : ℕ) → low ≤ j → j < s + 1 → P j → starts j ≡ false
passed_on P starts s low here passed j o l h = elim (cases_lt j s) [
  | inl m ↦ passed j o m h
  | inr m ↦ let e : j ≡ s = omega (arith, m, l) in ap starts e ∙ here (subst P e h)
]

pub not_back : (P : Type 0) (b t : Bool) → (IsTrue b ↔ P × (t ≡ true)) → b ≡ false → P → t ≡ false
not_back P b false h e p = refl
not_back P true true h e p = absurd (cc)
not_back P false true h e p = let q : false ≡ true = h.1 (p, refl) in absurd (cc)
