-- Meaning: an edit within the lines of some sections that leaves the lines above and below these
-- sections, if there are any.
use Rattle.std.specs.Prelude.{◌≡◌, ◌<◌, ◌≤◌, ◌+◌, ◌==◌, ℕ, Bool, true, false, not, length, slice_get, List, Option, Some, None}
use Rattle.std.specs.List.{splice}
use Rattle.yl_text.specs.Lines.{RowValue}
use Rattle.yl_patch.specs.declared.touched.Touched.{Touched}

-- there is a line, and it is not empty
abbrev pub is_filled : Option RowValue → Bool
is_filled None = false
is_filled (Some row) = not (length row.text == 0)

-- the edit puts the rows `ins` in place of the lines from a on, before b. It lies in the lines
-- after the first `first`, up to `old_end`, in place of which come `count` lines. These are apart
-- from the lines above and below: the first of them, if a line is above, and the first line below
-- are not empty, in the old text and in the new one
pub record IsApart (rows ins : List RowValue) (a b first old_end count : ℕ) : Type 0 where
  pub begins : first ≤ a
  pub ends : b ≤ old_end
  pub back : old_end ≤ length rows
  pub old_some : first < old_end
  pub new_some : 0 < count
  pub fits : first + count + b ≡ old_end + a + length ins
  pub old_seam : 0 < first → is_filled (slice_get rows first) ≡ true
  pub new_seam : 0 < first → is_filled (slice_get (splice rows a b ins) first) ≡ true
  pub behind_seam : old_end < length rows → is_filled (slice_get rows old_end) ≡ true

-- the edit puts `count` lines in place of the lines from a on, before b. It lies in the lines of
-- the touched sections, in the old text of `lines` lines and in the new one
pub record IsInside (t : Touched) (a b count lines : ℕ) : Type 0 where
  pub begins : t.first ≤ a
  pub ends : b ≤ t.old_end
  pub back : t.old_end ≤ lines
  pub old_some : t.first < t.old_end
  pub new_some : t.first < t.new_end
  pub fits : t.new_end + b ≡ t.old_end + a + count
