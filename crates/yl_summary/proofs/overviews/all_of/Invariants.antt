use Rattle.std.proofs.Common.{List, take, drop}
use Rattle.yl_sections.specs.Kept.{KeptValue}
use Rattle.yl_summary.specs.Overview.{AreFew, AreOverviews, IsOverviewOf}
use Rattle.yl_summary.proofs.overviews.all_of.Given as goal

abbrev pub invariant-loop-one : goal.invariant-loop-one
invariant-loop-one l = (ks : List KeptValue) → AreFew ks → AreOverviews ks l.overviews → IsOverviewOf (take l.all.sections ks) l.all × AreOverviews (drop l.all.sections ks) (drop l.one-index l.overviews)
