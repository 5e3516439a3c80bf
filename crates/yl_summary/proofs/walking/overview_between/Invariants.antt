use Rattle.std.proofs.Common.{◌-◌, take, drop}
use Rattle.yl_summary.specs.Overview.{IsOverviewOf}
use Rattle.yl_summary.proofs.walking.overview_between.Given as goal

abbrev pub invariant-loop-i : goal.invariant-loop-i
invariant-loop-i g l = IsOverviewOf (take (l.i - l.from) (drop l.from l.sections)) l.overview
