use Rattle.std.proofs.Common.{arith}
use Rattle.yl_summary.proofs.Joined.{border_next, lent, lent_is, within_next}
use Rattle.yl_summary.proofs.overviews.border_upto.Goals as goal

pub loop-i-preserved : goal.loop-i-preserved
loop-i-preserved g c =
    let ks = c.args.kept.now.items in
    let os = c.args.overviews.now in
    let border = c.loop-i.invariant.border in
    let is = lent_is os c.loop-i.i c.loop-i-test.true in
    let within = within_next ks os c.loop-i.i c.loop-i.sections (lent os c.loop-i.i) c.loop-i-test.true is border.below border.within in record {
      border = border_next ks os c.loop-i.sections c.loop-i.i _ (lent os c.loop-i.i) c.loop-i-test.true is border (omega (arith, within, c.saturating_add-next.ensures, c.requires.few.sections));
      upto = omega (arith, c.if-next-from.false);
    }
