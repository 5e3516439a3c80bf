use Rattle.std.proofs.Common.{ap, map, ◌∙◌}
use Rattle.yl_indentation.specs.Measures.{and_later, measure_of}
use Rattle.yl_lint.specs.TextReport.{facts_in_sections}
use Rattle.yl_lint.proofs.Shown.{measure_more}
use Rattle.yl_lint.proofs.assembling.measure_of.Goals as goal

pub loop-one-preserved : goal.loop-one-preserved
loop-one-preserved g c =
    measure_more c.args.kept.now c.loop-one.one-index c.one-item.result c.loop-one.measure c.and_later-measure.result (measure_of (facts_in_sections (map (λ k. k.now) c.args.kept.now)))
    c.loop-one-test.true c.one-item.is (c.and_later-measure.ensures ∙ ap (and_later c.loop-one.measure) c.measure.ensures) c.loop-one.invariant
