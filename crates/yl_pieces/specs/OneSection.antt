-- Bridge: laws of sections: rows in which a document's judge finds no fault are one section, and so
-- are rows and those after them.
use Rattle.std.specs.Prelude.{ℕ, ◌≡◌, ◌<◌, ◌++◌, List, [], ◌∷◌, length, Option, None}
use Rattle.yl_lexeme.specs.declared.lexeme.Kind.{Kind}
use Rattle.yl_record.specs.Records.{RecordValue}
use Rattle.yl_sections.specs.Local.{kind_after}
use Rattle.yl_sections.specs.Sections.{lexemes_of, sections}
use Rattle.yl_pieces.specs.State.{DocumentState, start_state}
use Rattle.yl_pieces.specs.Told.{fault_in, state_after}
use Rattle.yl_pieces.specs.Laws.{AreClosed}
use Rattle.yl_pieces.specs.Edit.{after_front}

-- the parser of a document refuses the first lexeme of the next one
abbrev pub RowsAreOneSection : Type 0
RowsAreOneSection = (rs : List RecordValue) → fault_in start_state 0 rs ≡ None → sections rs ≡ rs ∷ []

-- and the rows that come next go on with the section, by the state before them
abbrev pub RowsGoOnAsOneSection : Type 0
RowsGoOnAsOneSection = (front next : List RecordValue)
    → AreClosed front → fault_in start_state 0 front ≡ None → fault_in (after_front front) (length front) next ≡ None
    → sections (front ++ next) ≡ (front ++ next) ∷ []

-- the kind of the last lexeme, where the rows that come next have one: what stands above them has
-- no part in it
abbrev pub LastKindIsOfNext : Type 0
LastKindIsOfNext = (last : Option Kind) (front next : List RecordValue) → 0 < length (lexemes_of next) → kind_after last (front ++ next) ≡ kind_after None next

-- the state after rows holds the kind of the last lexeme
abbrev pub LastKindIsHeld : Type 0
LastKindIsHeld = (s : DocumentState) (line : ℕ) (rs : List RecordValue) → (state_after s line rs).marker.marks.latest ≡ kind_after s.marker.marks.latest rs
