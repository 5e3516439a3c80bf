-- Meaning: the documents of a text at some of its lines.
use Rattle.std.specs.Prelude.{◌≡◌, ◌<◌, ◌≤◌, ℕ, true, false, ◌+◌, ◌&&◌, if◌then◌else◌, leb, ltb, List, [], ◌∷◌, length, slice_get, Some, None}
use Rattle.yl_record.specs.Records.{RecordValue}
use Rattle.yl_sections.specs.Sections.{lexemes_of}
use Rattle.yl_sections.specs.Local.{is_start_at}
use Rattle.yl_sections.specs.Kept.{document_count}
use Rattle.yl_sections.specs.Front.{IsBare}

-- the number of documents of these sections that hold one of the lines from r to m; the first
-- section begins at this line
abbrev pub documents_holding : ℕ → ℕ → ℕ → List (List RecordValue) → ℕ
documents_holding line r m [] = 0
documents_holding line r m (s ∷ ss) =
    (if leb line m && ltb r (line + length s) then document_count (lexemes_of s) else 0) + documents_holding (line + length s) r m ss

-- no section begins with one of the rows after row `from`, up to row i
abbrev pub IsInSection : List RecordValue → (from i : ℕ) → Type 0
IsInSection rs from i = (j : ℕ) → from < j → j ≤ i → is_start_at rs j ≡ false

-- no scan fault begins above row `from`, and no lexeme and no comment begins from this row on, down
-- to where a section begins
pub record ReadsNothing (rs : List RecordValue) (from : ℕ) : Type 0 where
  pub sound : (i : ℕ) (r : RecordValue) → i < from → slice_get rs i ≡ Some r → r.entry.fault ≡ None
  pub bare : (i : ℕ) (r : RecordValue) → from ≤ i → IsInSection rs from i → slice_get rs i ≡ Some r → IsBare r

-- row `from` is there in the new text. If a section begins with it that did not begin in the old
-- text, no lexeme and no comment of the old text begins from this row on, down to where a section
-- begins: so the section above, which ends there now, has all that it had
pub record TakesNothing (old new : List RecordValue) (from : ℕ) : Type 0 where
  pub within : from < length new
  pub front : is_start_at old from ≡ false → is_start_at new from ≡ true → ReadsNothing old from
