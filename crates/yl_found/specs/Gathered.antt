-- Bridge: how far the comments of a text's sections were gathered.
use Rattle.std.specs.Prelude.{◌≡◌, ◌≤◌, ℕ, List, length, map, take}
use Rattle.yl_lexeme.specs.PlacedComments.{placed_comment_value}
use Rattle.yl_sections.specs.Kept.{KeptValue, rows_kept}
use Rattle.yl_lint.specs.TextReport.{comments_in_sections}
use Rattle.yl_found.specs.declared.gathered.Gathered.{Gathered}

-- the comments are those of the first `g.section` sections, except for sections from index `count`
-- on; these sections have `g.row` lines
pub record IsGathered {A : Type 0} (ks : List KeptValue) (count : ℕ) (g : Gathered A) : Type 0 where
  pub within : g.section ≤ length ks
  pub row : g.row ≡ rows_kept (take g.section ks)
  pub comments : map placed_comment_value g.comments.items ≡ comments_in_sections 0 (take count (take g.section ks))
