use Rattle.std.proofs.Common.{◌++◌, take, drop, arith}
use Rattle.yl_summary.proofs.Walks.{rows_both, rows_until}
use Rattle.yl_sections.proofs.KeptRows.{rows_front}
use Rattle.yl_patch.proofs.touched.find_touched.Goals as goal

pub overflow_add-result : goal.overflow_add-result
overflow_add-result g c =
    let e = c.args.edit.now in
    let h = c.requires in
    let ks = e.sections.now.items in
    omega (arith, h.above.rows, h.gone.rows, rows_until ks e.from e.end h.range.ordered h.range.within, rows_front ks e.end, h.few.rows)

pub overflow_add-result-2 : goal.overflow_add-result-2
overflow_add-result-2 g c =
    let e = c.args.edit.now in
    let h = c.requires in
    let ks = e.sections.now.items in
    let ns = e.kept.now in
    omega (arith, h.above.rows, h.come.rows, rows_both (take e.from ks) (ns ++ drop e.end ks), rows_both ns (drop e.end ks), h.few_then.rows)

pub returns-clause-old_end : goal.returns-clause-old_end
returns-clause-old_end g c =
    let e = c.args.edit.now in
    let h = c.requires in
    omega (arith, h.above.rows, h.gone.rows, rows_until e.sections.now.items e.from e.end h.range.ordered h.range.within)
