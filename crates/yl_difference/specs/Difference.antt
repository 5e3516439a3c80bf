-- Meaning: an edit that makes one text of another.
use Rattle.std.specs.Prelude.{◌≡◌, ℕ, List}
use Rattle.yl_text.specs.declared.position.Pos.{Pos}
use Rattle.yl_text.specs.Lines.{lines_of}
use Rattle.yl_text.specs.Edit.{IsEditRange, edited_text}

-- with these bytes in place of what stands between two places, the old text is the new one
pub record IsDifference (old new : List ℕ) (from to : Pos) (bytes : List ℕ) : Type 0 where
  pub range : IsEditRange (lines_of old) from to
  pub made : edited_text (lines_of old) from to bytes ≡ new
