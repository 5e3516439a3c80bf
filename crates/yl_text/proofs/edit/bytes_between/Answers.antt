use Rattle.std.proofs.Common.{◌+◌, arith}
use Rattle.yl_text.proofs.Seams.{length-more, length-front}
use Rattle.yl_text.proofs.edit.bytes_between.Goals as goal

pub overflow_add-sum : goal.overflow_add-sum
overflow_add-sum g c =
    let ps = g.S.Lines.rows c.args.lines.now in
    record { fits = omega (arith, length-more ps c.loop-i.i c.bytes.result c.row.result.now c.row.ensures c.bytes.ensures, length-front ps (c.loop-i.i + 1), c.requires.lines.short, c.loop-i.invariant) }

pub loop-i-preserved : goal.loop-i-preserved
loop-i-preserved g c =
    let ps = g.S.Lines.rows c.args.lines.now in
    omega (arith, length-more ps c.loop-i.i c.bytes.result c.row.result.now c.row.ensures c.bytes.ensures, c.loop-i.invariant)
