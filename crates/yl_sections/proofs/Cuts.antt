-- Sections, one after another.
use Rattle.std.proofs.Common.{◌≡◌, ℕ, suc, Bool, true, false, cond, List, [], ◌∷◌, take, drop, Option, None, refl, ap, sym, ◌∙◌}
use Rattle.yl_lexeme.specs.declared.lexeme.Kind.{Kind}
use Rattle.yl_lexeme.specs.Lexeme.{LexemeValue}
use Rattle.yl_record.specs.Records.{RecordValue}
use Rattle.yl_sections.specs.Sections.{Parts, last_kind_from, is_section_start, with_row, parts, all_parts, sections, row_count, later_sections}

-- a section that begins has a lexeme, so the kind of the last one after its first row doesn't depend on what stands before
pub last_anew : (last : Option Kind) (xs : List LexemeValue) → is_section_start last xs ≡ true → last_kind_from last xs ≡ last_kind_from None xs
last_anew last [] b = absurd (cc)
last_anew last (x ∷ xs) b = refl

pub none_begins : (xs : List LexemeValue) → is_section_start None xs ≡ false
none_begins [] = refl
none_begins (x ∷ xs) = refl

-- a row that begins a section, after others
pub anew : (last : Option Kind) (r : RecordValue) (rs : List RecordValue) → is_section_start last r.entry.lexemes ≡ true
    → all_parts (with_row false r (parts (last_kind_from last r.entry.lexemes) rs)) ≡ sections (r ∷ rs)
anew last r rs b =
    ap (λ (k : Option Kind). all_parts (with_row false r (parts k rs))) (last_anew last r.entry.lexemes b)
    ∙ ap (λ (t : Bool). all_parts (with_row t r (parts (last_kind_from None r.entry.lexemes) rs))) (sym (none_begins r.entry.lexemes))

abbrev count_if : Bool → ℕ → ℕ
count_if b n = cond b 0 (suc n)

abbrev AreParted : Parts → ℕ → List RecordValue → Type 0
AreParted p n rs = (p.here ≡ take n rs) × (p.later ≡ later_sections (drop n rs))

row_more : (last : Option Kind) (b : Bool) (r : RecordValue) (rs : List RecordValue) (n : ℕ) → is_section_start last r.entry.lexemes ≡ b
    → AreParted (parts (last_kind_from last r.entry.lexemes) rs) n rs → AreParted (with_row b r (parts (last_kind_from last r.entry.lexemes) rs)) (count_if b n) (r ∷ rs)
row_more last true r rs n b h = (refl, anew last r rs b)
row_more last false r rs n b h = (ap (λ (ys : List RecordValue). r ∷ ys) h.0, h.1)

pub are_parted : (last : Option Kind) (rs : List RecordValue) → AreParted (parts last rs) (row_count last rs) rs
are_parted last [] = (refl, refl)
are_parted last (r ∷ rs) = row_more last (is_section_start last r.entry.lexemes) r rs (row_count (last_kind_from last r.entry.lexemes) rs) refl (are_parted (last_kind_from last r.entry.lexemes) rs)

consed : (xs ys : List RecordValue) (xss yss : List (List RecordValue)) → xs ≡ ys → xss ≡ yss → xs ∷ xss ≡ ys ∷ yss
consed xs ys xss yss a b = rw (a, b)

pub first_section : (rs : List RecordValue) → sections rs ≡ take (row_count None rs) rs ∷ later_sections (drop (row_count None rs) rs)
first_section rs = let h = are_parted None rs in consed _ _ _ _ h.0 h.1

-- rows that are there have a first section of one row at least
pub some_rows : (r : RecordValue) (rs : List RecordValue) → row_count None (r ∷ rs) ≡ suc (row_count (last_kind_from None r.entry.lexemes) rs)
some_rows r rs = ap (λ (t : Bool). count_if t (row_count (last_kind_from None r.entry.lexemes) rs)) (none_begins r.entry.lexemes)
