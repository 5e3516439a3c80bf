use Rattle.std.proofs.Common.{◌≡◌, ◌≤◌, take}
use Rattle.yl_sections.specs.Kept.{rows_kept}
use Rattle.yl_sections.proofs.places.section_of.Given as goal

abbrev pub invariant-loop-i : goal.invariant-loop-i
invariant-loop-i g l = record {
  section : l.place.section ≡ l.i;
  at : l.place.row ≡ rows_kept (take l.i l.kept.items);
  row : l.place.row ≤ l.row;
}
