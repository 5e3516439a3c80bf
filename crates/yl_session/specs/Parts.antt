-- Bridge: what an edit makes of the problems that a session keeps.
use Rattle.std.specs.Prelude.{◌≡◌, List}
use Rattle.yl_text.specs.Lines.{RowValue}
use Rattle.yl_config.specs.declared.config.Config.{Config}
use Rattle.yl_sections.specs.Kept.{KeptValue}
use Rattle.yl_problem_lists.specs.Changes.{renewed}
use Rattle.yl_problem_lists.specs.Rooms.{IsReady}
use Rattle.yl_problem_lists.specs.declared.change.Change.{Change}
use Rattle.yl_found.specs.Found.{all_parts}

-- the change can be made of the two lists of these lines and summaries of sections, and makes them
-- the two lists of the new lines and summaries
pub record Makes {A : Type 0} (config : Config) (rows new : List RowValue) (ks ls : List KeptValue) (change : Change A) : Type 0 where
  pub ready : IsReady change (all_parts config rows ks)
  pub parts : renewed change (all_parts config rows ks) ≡ all_parts config new ls
