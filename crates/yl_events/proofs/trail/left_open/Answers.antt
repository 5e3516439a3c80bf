use Rattle.std.proofs.Common.{arith}
use Rattle.yl_events.proofs.Trails.{closed_step}
use Rattle.yl_events.proofs.trail.left_open.Goals as goal

pub loop-symbol-preserved : goal.loop-symbol-preserved
loop-symbol-preserved c = record {
  same = closed_step c.args.behind.now c.loop-symbol.symbol-index _ c.args.blocks.now _ c.loop-symbol.open _ c.loop-symbol-test.true c.in-Close.is
      c.loop-symbol.invariant.same c.loop-symbol.invariant.within c.saturating_sub-open.ensures;
  within = omega arith;
}
