use Rattle.std.proofs.Common.{arith}
use Rattle.yl_summary.proofs.Joined.{all_end, all_next}
use Rattle.yl_summary.proofs.overviews.all_of.Goals as goal

pub loop-one-preserved : goal.loop-one-preserved
loop-one-preserved c = λ ks few known. all_next ks c.args.overviews.now c.loop-one.one-index c.loop-one.all c.and_later-all.result c.loop-one-test.true few (c.loop-one.invariant ks few known) c.and_later-all.ensures

pub returns : goal.returns
returns c = λ ks few known. all_end ks c.args.overviews.now c.loop-one.one-index c.loop-one.all (omega (arith, c.loop-one-test.false)) (c.loop-one.invariant ks few known)
