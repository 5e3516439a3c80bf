use Rattle.std.proofs.Common.{take}
use Rattle.yl_summary.specs.Overview.{IsOverviewOf}
use Rattle.yl_summary.proofs.walking.overview_of.Given as goal

abbrev pub invariant-loop-one : goal.invariant-loop-one
invariant-loop-one g l = IsOverviewOf (take l.one-index l.kept) l.overview
