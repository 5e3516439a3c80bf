use Rattle.std.proofs.Common.{drop}
use Rattle.yl_patch.specs.Seen.{AreFoundAlike}
use Rattle.yl_patch.proofs.measures.is_alike_below.Given as goal

abbrev pub invariant-loop-i : goal.invariant-loop-i
invariant-loop-i g l = AreFoundAlike l.first l.second (drop l.i l.kept.items) → AreFoundAlike l.fn.one l.fn.other (drop l.end l.kept.items)
