use Rattle.std.proofs.Common.{arith}
use Rattle.yl_edited_lines.proofs.ReadAlike.{edit_reads_alike}
use Rattle.yl_edited_lines.proofs.unchanged.reads_alike.Goals as goal

pub returns : goal.returns
returns g c = λ e.
    let text = c.args.text.now in
    let place = c.is_inner.ensures.place c.if-not-is_inner.false in
    edit_reads_alike c.args.config.now (g.S.Lines.rows text.store.now) text.rows.now text.a text.b place.0 (omega (arith, place.1, c.len.ensures)) (c.is_inner.ensures.count c.if-not-is_inner.false) (c.in_ok-same.ensures e)
