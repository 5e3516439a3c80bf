use Rattle.std.proofs.Common.{◌≤◌, drop}
use Rattle.yl_sections.specs.Places.{IsAt}
use Rattle.yl_summary.specs.Overview.{AreOverviews}
use Rattle.yl_summary.proofs.overviews.nearest.Given as goal

abbrev pub invariant-loop-one : goal.invariant-loop-one
invariant-loop-one g l = record {
  at : IsAt l.kept.items l.best;
  above : l.best.row ≤ l.row;
  below : AreOverviews (drop l.best.section l.kept.items) (drop l.one-index l.overviews);
}
