use Rattle.yl_config.specs.Config.{options_of}
use Rattle.yl_edited_lines.proofs.ReadAlike.{alike_next}
use Rattle.yl_edited_lines.proofs.unchanged.are_alike.Goals as goal

pub loop-i-preserved : goal.loop-i-preserved
loop-i-preserved g c = λ more.
    c.loop-i.invariant
    (alike_next (options_of c.args.config.now).row c.args.a c.loop-i.i (g.L.Lines.rows c.args.lines.now) c.args.rows.now c.row-old.result.now c.index-rows-i.result
    c.loop-i-test.true c.row-old.ensures c.index-rows-i.is (c.in_ok-is_alike.ensures c.if-not-branch.false) more)
