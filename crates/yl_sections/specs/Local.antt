-- Meaning: the sections of an edited text: only sections near the edit change.
use Rattle.std.specs.Prelude.{◌≡◌, ◌⊎◌, ◌<◌, ◌≤◌, ◌+◌, ℕ, Bool, true, false, List, [], ◌∷◌, ◌++◌, length, take, drop, Option, None}
use Rattle.std.specs.List.{splice}
use Rattle.yl_lexeme.specs.declared.lexeme.Kind.{Kind}
use Rattle.yl_record.specs.Records.{RecordValue}
use Rattle.yl_sections.specs.Sections.{last_kind_from, is_section_start, sections}

-- the kind of the last lexeme after these rows
abbrev pub kind_after : Option Kind → List RecordValue → Option Kind
kind_after last [] = last
kind_after last (r ∷ rs) = kind_after (last_kind_from last r.entry.lexemes) rs

-- a section begins with the first of these rows
abbrev pub begins_section : Option Kind → List RecordValue → Bool
begins_section last [] = false
begins_section last (r ∷ rs) = is_section_start last r.entry.lexemes

-- a section begins with the row of this index
abbrev pub is_start_at : List RecordValue → ℕ → Bool
is_start_at rs i = begins_section (kind_after None (take i rs)) (drop i rs)

-- the number of rows of these sections, and the rows
abbrev pub row_total : List (List RecordValue) → ℕ
row_total [] = 0
row_total (s ∷ ss) = length s + row_total ss

abbrev pub all_rows : List (List RecordValue) → List RecordValue
all_rows [] = []
all_rows (s ∷ ss) = s ++ all_rows ss

-- the rows of the sections, one section after another, are all rows
abbrev pub SectionsAreRows : Type 0
SectionsAreRows = (rs : List RecordValue) → all_rows (sections rs) ≡ rs

-- the new rows are the old ones up to a place at which a section begins, some rows, and the old
-- ones from a place on at which a section begins; then only the sections of the rows between
-- differ. p and q are the numbers of old sections before the places x and y, and z is the place y
-- in the new rows
abbrev pub SectionsAreLocal : Type 0
SectionsAreLocal =
    (old new : List RecordValue) (p q x y z : ℕ)
    → p ≤ q → q ≤ length (sections old) → x ≡ row_total (take p (sections old)) → y ≡ row_total (take q (sections old))
    → x < z → take x old ≡ take x new → drop y old ≡ drop z new
    → (p ≡ 0) ⊎ (is_start_at new x ≡ true) → (q ≡ length (sections old)) ⊎ (is_start_at new z ≡ true)
    → splice (sections old) p q (sections (drop x (take z new))) ≡ sections new
