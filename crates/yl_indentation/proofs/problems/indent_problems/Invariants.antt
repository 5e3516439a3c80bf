use Rattle.std.proofs.Common.{◌≡◌, ◌++◌, drop}
use Rattle.yl_indentation.specs.Problems.{indent_problems}
use Rattle.yl_indentation.proofs.problems.indent_problems.Given as goal

abbrev pub invariant-loop-fact : goal.invariant-loop-fact
invariant-loop-fact g l =
    l.found.items ++ indent_problems l.options l.here l.fn.whole (drop l.fact-index l.facts) ≡ indent_problems l.options l.fn.before l.fn.whole l.facts
