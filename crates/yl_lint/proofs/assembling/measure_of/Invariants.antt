use Rattle.std.proofs.Common.{◌≡◌, drop, map}
use Rattle.yl_indentation.specs.Measures.{and_later, measure_of}
use Rattle.yl_lint.specs.TextReport.{facts_in_sections}
use Rattle.yl_lint.proofs.assembling.measure_of.Given as goal

abbrev pub invariant-loop-one : goal.invariant-loop-one
invariant-loop-one g l = and_later l.measure (measure_of (facts_in_sections (map (λ k. k.now) (drop l.one-index l.kept)))) ≡ measure_of (facts_in_sections (map (λ k. k.now) l.kept))
