use Rattle.std.proofs.Common.{◌-◌, ◌≤◌, take}
use Rattle.yl_summary.specs.Overview.{AreOverviews}
use Rattle.yl_summary.proofs.overviews.push_overviews.Given as goal

abbrev pub invariant-loop-at : goal.invariant-loop-at
invariant-loop-at g l = record {
  above : AreOverviews (take l.at l.sections) l.overviews.items;
  upto : l.at ≤ l.end;
}

abbrev pub decreases-loop-at : goal.decreases-loop-at
decreases-loop-at g l = l.end - l.at
