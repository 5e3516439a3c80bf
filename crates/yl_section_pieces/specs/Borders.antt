-- Bridge: the borders of a section, where its pieces begin.
use Rattle.std.specs.Prelude.{ℕ, ◌<◌, List, [], ◌∷◌, drop, length, take}
use Rattle.yl_record.specs.Records.{RecordValue}
use Rattle.yl_section_pieces.specs.declared.borders.Border.{Border}
use Rattle.yl_section_pieces.specs.Pieces.{BeginsWithLexeme, IsStateAfter}

-- these borders, one after another, are in the section below the row `low`
abbrev pub AreBorders : {A : Type 0} → List RecordValue → (low : ℕ) → List (Border A) → Type 0
AreBorders rs low [] = Unit {0}
AreBorders rs low (b ∷ bs) = (low < b.row) × (b.row < length rs) × IsStateAfter (take b.row rs) b.state × BeginsWithLexeme (drop b.row rs) × AreBorders rs b.row bs

-- the row of the last border
abbrev pub last_row : {A : Type 0} → ℕ → List (Border A) → ℕ
last_row low [] = low
last_row low (b ∷ bs) = last_row b.row bs

-- the next border comes after these
pub record AreDue {A : Type 0} (rs : List RecordValue) (due : ℕ) (bs : List (Border A)) : Type 0 where
  pub borders : AreBorders rs 0 bs
  pub last : last_row 0 bs < due
