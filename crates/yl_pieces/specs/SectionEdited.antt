-- Bridge: laws of an edit: rows of one section in place of others, where it is one section still,
-- change this section alone. It is one if the state after the rows is the same.
use Rattle.std.specs.Prelude.{ℕ, ◌≡◌, ◌<◌, ◌+◌, ◌++◌, ◌⊎◌, List, [], ◌∷◌, length, take, Some, None, slice_get}
use Rattle.std.specs.List.{splice}
use Rattle.yl_record.specs.Records.{RecordValue}
use Rattle.yl_sections.specs.Local.{kind_after, row_total}
use Rattle.yl_sections.specs.Sections.{sections}
use Rattle.yl_pieces.specs.State.{start_state}
use Rattle.yl_pieces.specs.Told.{fault_in}
use Rattle.yl_pieces.specs.Edit.{IsPieceEdit}

-- the records of a text: those above a section, its own, and those below it
abbrev pub around : (above section below : List RecordValue) → List RecordValue
around above section below = above ++ (section ++ below)

-- the section has this index among those of the text
pub record IsSectionAt (i : ℕ) (above section below : List RecordValue) : Type 0 where
  pub section_is : slice_get (sections (around above section below)) i ≡ Some section
  pub rows_above : row_total (take i (sections (around above section below))) ≡ length above

-- after the rows `front` of the section of this index the rows `new` come in place of `old`: its
-- first row stays, if it is not the first section; it is one section still; and the kind of its
-- last lexeme stays, if rows stand below it
pub record IsSectionStill (i : ℕ) (front old new below : List RecordValue) : Type 0 where
  pub some : 0 < length (front ++ new)
  pub begins : (i ≡ 0) ⊎ (0 < length front)
  pub one : sections (front ++ new) ≡ (front ++ new) ∷ []
  pub last : (below ≡ []) ⊎ (kind_after None (front ++ old) ≡ kind_after None (front ++ new))

-- then the others are as they were
abbrev pub SectionIsReplaced : Type 0
SectionIsReplaced = (i : ℕ) (above front old new below : List RecordValue)
    → IsSectionAt i above (front ++ old) below → IsSectionStill i front old new below
    → sections (around above (front ++ new) below) ≡ splice (sections (around above (front ++ old) below)) i (i + 1) ((front ++ new) ∷ [])

-- the same of an edit of a piece in a section that had no fault
abbrev pub SectionIsEdited : Type 0
SectionIsEdited = (i : ℕ) (above front old new rest below : List RecordValue)
    → IsSectionAt i above (front ++ (old ++ rest)) below → IsPieceEdit front old new → fault_in start_state 0 (front ++ (old ++ rest)) ≡ None
    → sections (around above (front ++ (new ++ rest)) below) ≡ splice (sections (around above (front ++ (old ++ rest)) below)) i (i + 1) ((front ++ (new ++ rest)) ∷ [])
