-- Meaning: comments that say the same of all lines below their sections.
use Rattle.std.specs.Prelude.{◌≡◌, List}
use Rattle.std.specs.List.{AllByRecursion}
use Rattle.yl_sections.specs.Kept.{KeptValue, rows_kept}
use Rattle.yl_edited_lines.specs.Switches.{SpeaksWithin, switch_texts}
use Rattle.yl_lint.specs.TextReport.{comments_in_sections, shown}

-- no shown comment of these sections speaks of a single line below them, and the shown comments
-- that may switch rules have the same texts in both
pub record SpeakAlike (ls ns : List KeptValue) : Type 0 where
  pub old : AllByRecursion (SpeaksWithin (rows_kept ls)) (comments_in_sections 0 (shown ls))
  pub new : AllByRecursion (SpeaksWithin (rows_kept ns)) (comments_in_sections 0 (shown ns))
  pub switches : switch_texts (comments_in_sections 0 (shown ls)) ≡ switch_texts (comments_in_sections 0 (shown ns))

-- the same is true of all their comments, whatever a fault hides
pub record AllSpeakAlike (ls ns : List KeptValue) : Type 0 where
  pub old : AllByRecursion (SpeaksWithin (rows_kept ls)) (comments_in_sections 0 ls)
  pub new : AllByRecursion (SpeaksWithin (rows_kept ns)) (comments_in_sections 0 ns)
  pub switches : switch_texts (comments_in_sections 0 ls) ≡ switch_texts (comments_in_sections 0 ns)
