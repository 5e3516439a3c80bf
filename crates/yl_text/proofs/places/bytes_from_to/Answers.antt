use Rattle.std.proofs.Common.{arith}
use Rattle.yl_text.proofs.ByBytes.{start_within}
use Rattle.yl_text.proofs.places.bytes_from_to.Goals as goal

pub overflow_add-result : goal.overflow_add-result
overflow_add-result g c =
    let ps = g.S.Lines.rows c.args.lines.now in
    record { fits = omega (arith, start_within ps c.args.to.line, c.requires.lines.short, c.bytes_between.ensures, c.requires.within) }
