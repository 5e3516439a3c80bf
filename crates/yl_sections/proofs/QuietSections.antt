-- Sections of records where one begins at a row, and of records behind which nothing is read.
use Rattle.std.proofs.Common.{◌≡◌, ◌+◌, ℕ, Bool, true, false, List, [], ◌∷◌, ◌++◌, length, take, drop, Option, None, refl, ap, sym, ◌∙◌}
use Rattle.std.specs.List.{AllByRecursion}
use Rattle.std.proofs.lemmas.List.{length-append, take-append-drop}
use Rattle.yl_lexeme.specs.declared.lexeme.Kind.{Kind}
use Rattle.yl_lexeme.specs.Lexeme.{LexemeValue}
use Rattle.yl_record.specs.Records.{RecordValue}
use Rattle.yl_sections.specs.Sections.{Parts, last_kind_from, is_section_start, with_row, parts, all_parts, sections}
use Rattle.yl_sections.specs.Local.{is_start_at, row_total, all_rows}
use Rattle.yl_sections.specs.Last.{HasNoLexeme}
use Rattle.yl_sections.proofs.Local.{sections_then, joined_parts}

-- ---- where a section begins

-- the sections above a row at which one begins, and those from it on
pub sections_at : (rs : List RecordValue) (h : ℕ) → is_start_at rs h ≡ true → sections rs ≡ sections (take h rs) ++ sections (drop h rs)
sections_at rs h b = ap sections (sym (take-append-drop h rs)) ∙ sections_then (take h rs) (drop h rs) b

-- ---- rows behind which no lexeme stands

-- these rows more in the last section
abbrev pub grown_behind : List RecordValue → List RecordValue → List (List RecordValue) → List (List RecordValue)
grown_behind qs s [] = (s ++ qs) ∷ []
grown_behind qs s (t ∷ ss) = s ∷ grown_behind qs t ss

abbrev pub grown : List RecordValue → List (List RecordValue) → List (List RecordValue)
grown qs [] = []
grown qs (s ∷ ss) = grown_behind qs s ss

-- a row more before these sections, which begins one or not
abbrev with_first : Bool → RecordValue → List (List RecordValue) → List (List RecordValue)
with_first b r [] = []
with_first true r (s ∷ ss) = [] ∷ ((r ∷ s) ∷ ss)
with_first false r (s ∷ ss) = (r ∷ s) ∷ ss

row_first : (b : Bool) (r : RecordValue) (p : Parts) → all_parts (with_row b r p) ≡ with_first b r (all_parts p)
row_first true r p = refl
row_first false r p = refl

grown_first : (qs : List RecordValue) (b : Bool) (r : RecordValue) (ss : List (List RecordValue)) → with_first b r (grown qs ss) ≡ grown qs (with_first b r ss)
grown_first qs b r [] = refl
grown_first qs true r (s ∷ []) = refl
grown_first qs true r (s ∷ (t ∷ ss)) = refl
grown_first qs false r (s ∷ []) = refl
grown_first qs false r (s ∷ (t ∷ ss)) = refl

quiet_start : (last : Option Kind) (xs : List LexemeValue) → xs ≡ [] → is_section_start last xs ≡ false
quiet_start last [] e = refl
quiet_start last (x ∷ xs) e = absurd (cc)

parts_quiet : (last : Option Kind) (qs : List RecordValue) → AllByRecursion HasNoLexeme qs → all_parts (parts last qs) ≡ qs ∷ []
parts_quiet last [] h = refl
parts_quiet last (q ∷ qs) h =
    let k = last_kind_from last q.entry.lexemes in
    row_first (is_section_start last q.entry.lexemes) q (parts k qs)
    ∙ (ap (λ (b : Bool). with_first b q (all_parts (parts k qs))) (quiet_start last q.entry.lexemes h.0)
    ∙ ap (λ (ss : List (List RecordValue)). with_first false q ss) (parts_quiet k qs h.1))

parts_grown : (last : Option Kind) (xs qs : List RecordValue) → AllByRecursion HasNoLexeme qs → all_parts (parts last (xs ++ qs)) ≡ grown qs (all_parts (parts last xs))
parts_grown last [] qs h = parts_quiet last qs h
parts_grown last (x ∷ xs) qs h =
    let k = last_kind_from last x.entry.lexemes in
    let b = is_section_start last x.entry.lexemes in
    row_first b x (parts k (xs ++ qs))
    ∙ (ap (λ (ss : List (List RecordValue)). with_first b x ss) (parts_grown k xs qs h)
    ∙ (grown_first qs b x (all_parts (parts k xs)) ∙ ap (λ (ss : List (List RecordValue)). grown qs ss) (sym (row_first b x (parts k xs)))))

-- the rows behind the last lexeme lengthen the last section
pub sections_grown : (xs qs : List RecordValue) → AllByRecursion HasNoLexeme qs → sections (xs ++ qs) ≡ grown qs (sections xs)
sections_grown xs qs h = parts_grown None xs qs h

-- ---- rows of sections

pub row_total_is : (ss : List (List RecordValue)) → row_total ss ≡ length (all_rows ss)
row_total_is [] = refl
row_total_is (s ∷ ss) = ap (λ n. length s + n) (row_total_is ss) ∙ sym (length-append s (all_rows ss))

pub rows_of_all : (rs : List RecordValue) → row_total (sections rs) ≡ length rs
rows_of_all rs = row_total_is (sections rs) ∙ ap (λ (es : List RecordValue). length es) (joined_parts None rs)
