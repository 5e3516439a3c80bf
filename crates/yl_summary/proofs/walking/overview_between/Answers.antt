use Rattle.std.proofs.Common.{arith}
use Rattle.yl_sections.proofs.KeptRows.{got}
use Rattle.yl_summary.proofs.Whole.{between_more}
use Rattle.yl_summary.proofs.walking.overview_between.Goals as goal

pub loop-i-preserved : goal.loop-i-preserved
loop-i-preserved g c =
    let ks = c.args.sections.now in
    between_more ks c.args.from c.loop-i.i c.get.result.now c.loop-i.overview c.count.new.self (omega arith) (omega (arith, c.loop-i-test.true, c.requires.range.within)) (got ks c.loop-i.i c.get.result.now c.get.ensures) c.requires.few c.loop-i.invariant
    c.count.ensures
