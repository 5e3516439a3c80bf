use Rattle.yl_summary.proofs.Whole.{overview_more}
use Rattle.yl_summary.proofs.walking.overview_of.Goals as goal

pub loop-one-preserved : goal.loop-one-preserved
loop-one-preserved g c = overview_more c.args.kept.now c.loop-one.one-index c.one-item.result c.loop-one.overview c.count.new.self c.loop-one-test.true c.one-item.is c.requires c.loop-one.invariant c.count.ensures
