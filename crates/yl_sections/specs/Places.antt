-- Bridge: places in the summaries of sections.
use Rattle.std.specs.Prelude.{◌≡◌, ◌≤◌, List, length, take}
use Rattle.yl_sections.specs.declared.places.Place.{Place}
use Rattle.yl_sections.specs.Kept.{KeptValue, rows_kept}

-- the section of the place begins with its row, or the place is the end of all sections
pub record IsAt (ks : List KeptValue) (p : Place) : Type 0 where
  pub section : p.section ≤ length ks
  pub row : p.row ≡ rows_kept (take p.section ks)
