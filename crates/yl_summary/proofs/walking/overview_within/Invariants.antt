use Rattle.std.proofs.Common.{◌-◌, ◌≤◌, take, drop}
use Rattle.yl_summary.specs.Overview.{IsOverviewOf}
use Rattle.yl_summary.proofs.walking.overview_within.Given as goal

abbrev pub invariant-loop-at : goal.invariant-loop-at
invariant-loop-at g l = record {
  known : IsOverviewOf (take (l.at - l.from) (drop l.from l.kept.items)) l.overview;
  after : l.from ≤ l.at;
  upto : l.at ≤ l.end;
}

abbrev pub decreases-loop-at : goal.decreases-loop-at
decreases-loop-at g l = l.end - l.at
