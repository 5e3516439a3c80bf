use Rattle.std.proofs.Common.{drop}
use Rattle.yl_indentation.specs.Onward.{AreJudgedAlike}
use Rattle.yl_indentation.proofs.alike.are_judged_alike.Given as goal

abbrev pub invariant-loop-fact : goal.invariant-loop-fact
invariant-loop-fact l =
    AreJudgedAlike l.one l.other (drop l.fact-index l.facts) → AreJudgedAlike l.fn.one l.fn.other l.facts
