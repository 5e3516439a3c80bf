use Rattle.std.proofs.Common.{◌≤◌, arith}
use Rattle.yl_summary.proofs.Joined.{upto_next}
use Rattle.yl_summary.proofs.overviews.push_overviews.Goals as goal
use Rattle.yl_summary.proofs.overviews.push_overviews.Goals.{then-end-at, else-end-at}

pub loop-at-preserved : goal.loop-at-preserved
loop-at-preserved g c =
    let upto : c.if-end-at.next ≤ c.args.end = elim c.if-end-at.branch [ then-end-at w ↦ omega arith | else-end-at w ↦ omega arith ] in record {
      above = upto_next c.args.sections.now c.loop-at.at c.if-end-at.next c.loop-at.overviews.items c.push.new.self.items c.overview_between.result (omega arith) c.loop-at.invariant.above c.overview_between.ensures c.in_ok-push.ensures.items;
      upto = upto;
    }
