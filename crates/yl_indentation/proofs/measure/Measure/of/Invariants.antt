use Rattle.std.proofs.Common.{◌≡◌, drop}
use Rattle.yl_indentation.specs.Measures.{and_later, measure_of}
use Rattle.yl_indentation.proofs.measure.Measure.of.Given as goal

abbrev pub invariant-loop-fact : goal.invariant-loop-fact
invariant-loop-fact l = and_later l.measure (measure_of (drop l.fact-index l.facts)) ≡ measure_of l.facts
