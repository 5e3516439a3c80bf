use Rattle.std.proofs.Common.{◌++◌, ap, arith, ◌∙◌}
use Rattle.yl_indentation.specs.Measures.{and_later, empty_measure}
use Rattle.yl_lint.specs.TextReport.{findings_in_sections}
use Rattle.yl_sections.proofs.KeptRows.{got}
use Rattle.yl_found.proofs.Pushed.{pushed_all, pushed_whole}
use Rattle.yl_found.proofs.found.push_all.Goals as goal

pub loop-i-preserved : goal.loop-i-preserved
loop-i-preserved g c =
    let ks = c.args.sections.now in
    let o = c.args.options.now in
    pushed_whole o c.args.whole c.loop-i.line c.in_ok-line.line c.loop-i.before c.and_later-before.result c.loop-i.found.items c.push_section.new.found.items
    (c.args.found.now.items ++ findings_in_sections o c.args.whole 0 empty_measure ks) ks c.loop-i.i c.get-one.result.now (omega (arith, c.loop-i-test.true, c.len-i-end.ensures)) (got ks c.loop-i.i c.get-one.result.now c.get-one.ensures)
    (omega (arith, c.in_ok-line.ensures, c.rows.ensures)) (c.and_later-before.ensures ∙ ap (and_later c.loop-i.before) c.measure.ensures) c.in_ok-push_section.ensures c.loop-i.invariant

pub returns : goal.returns
returns g c =
    let ks = c.args.sections.now in
    let o = c.args.options.now in
    pushed_all o c.args.whole c.loop-i.line c.loop-i.line c.loop-i.before c.loop-i.before c.loop-i.found.items c.loop-i.found.items (c.args.found.now.items ++ findings_in_sections o c.args.whole 0 empty_measure ks) ks c.loop-i.i
    (omega (arith, c.loop-i-test.false, c.len-i-end.ensures)) c.loop-i.invariant
