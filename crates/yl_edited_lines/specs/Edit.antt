-- Meaning: an edit of the lines of a text.
use Rattle.std.specs.Prelude.{ℕ, List, length}
use Rattle.std.specs.List.{splice}
use Rattle.yl_text.specs.Lines.{RowValue}
use Rattle.yl_text.specs.Store.{AreLines, IsRange}

-- these rows, in place of the lines of a text from a on, before b, make the lines of a text
pub record IsTextEdit (rows : List RowValue) (a b : ℕ) (ins : List RowValue) : Type 0 where
  pub range : IsRange a b (length rows)
  pub old : AreLines rows
  pub new : AreLines (splice rows a b ins)
