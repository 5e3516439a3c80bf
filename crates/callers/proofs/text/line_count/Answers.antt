use Rattle.std.proofs.Common.{◌≡◌, List, length, arith, ap, sym, ◌∙◌}
use Rattle.std.specs.Vec.{vec_len}
use Rattle.yl_text.specs.Lines.{RowValue, lines_of}
use Rattle.yl_text.proofs.Computed.{lines_of-is}
use Rattle.callers.proofs.text.line_count.Goals as goal

pub returns : goal.returns
returns g c =
    let rows = c.in_ok-rows.rows in
    let is : rows.items ≡ lines_of c.args.bytes.now = sym (lines_of-is c.args.bytes.now rows.items c.in_ok-rows.ensures.lines) in
    let n : vec_len rows ≡ length rows.items = omega arith in
    c.len.ensures ∙ (n ∙ ap (λ (ps : List RowValue). length ps) is)
