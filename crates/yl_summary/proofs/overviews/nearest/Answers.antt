use Rattle.std.proofs.Common.{arith}
use Rattle.yl_summary.proofs.Joined.{place_next}
use Rattle.yl_summary.proofs.overviews.nearest.Goals as goal

pub loop-one-preserved : goal.loop-one-preserved
loop-one-preserved g c =
    let further =
    place_next c.args.kept.now.items c.args.overviews.now c.loop-one.one-index c.loop-one.best.section c.loop-one.best.row c.saturating_add.result c.saturating_add-next.result c.loop-one-test.true c.requires.few c.loop-one.invariant.at c.loop-one.invariant.below
    (λ s r. (omega (arith, s, c.saturating_add.ensures, c.requires.few.sections), omega (arith, r, c.saturating_add-next.ensures, c.requires.few.rows))) in record {
      at = further.0;
      above = omega (arith, c.if-next-row.false);
      below = further.1;
    }
