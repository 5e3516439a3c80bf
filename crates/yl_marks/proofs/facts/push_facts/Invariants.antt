use Rattle.std.proofs.Common.{◌≡◌, ◌+◌, ◌++◌, drop}
use Rattle.yl_marks.specs.FactsByLine.{ahead_of_all, facts_ahead}
use Rattle.yl_marks.proofs.facts.push_facts.Given as goal

abbrev pub invariant-loop-i : goal.invariant-loop-i
invariant-loop-i g l = record {
  facts : l.facts.items ++ facts_ahead l.ahead l.pieces (l.first + l.i) (drop l.i l.pieces) ≡ l.fn.facts.items ++ facts_ahead l.fn.ahead l.pieces l.first l.pieces;
  ahead : ahead_of_all l.ahead l.pieces (l.first + l.i) (drop l.i l.pieces) ≡ ahead_of_all l.fn.ahead l.pieces l.first l.pieces;
}
