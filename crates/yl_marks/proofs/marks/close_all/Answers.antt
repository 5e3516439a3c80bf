use Rattle.std.proofs.Common.{◌+◌, arith}
use Rattle.yl_marks.proofs.Closed.{closed_step, closed_end}
use Rattle.yl_marks.proofs.marks.close_all.Goals as goal

pub loop-collection-preserved : goal.loop-collection-preserved
loop-collection-preserved g c =
    closed_step c.loop-collection.symbols.items c.push.new.self.items _ c.args.collections.now c.loop-collection._collection-index (c.loop-collection._collection-index + 1) (omega arith) c.loop-collection-test.true c.loop-collection.invariant c.in_ok-push.ensures.items

pub returns : goal.returns
returns g c = closed_end c.loop-collection.symbols.items _ c.args.collections.now c.loop-collection._collection-index (omega arith) c.loop-collection.invariant
