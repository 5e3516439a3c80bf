use Rattle.std.proofs.Common.{drop, ap, arith, ◌∙◌}
use Rattle.yl_indentation.specs.Measures.{and_later}
use Rattle.yl_lint.specs.Onward.{indentation_in_sections}
use Rattle.yl_edited_lines.proofs.Pushed.{counts_more}
use Rattle.yl_sections.proofs.KeptRows.{got}
use Rattle.yl_patch.proofs.Again.{none_again, pushed_again}
use Rattle.yl_patch.proofs.indentation.find_from.Goals as goal

pub loop-i-preserved : goal.loop-i-preserved
loop-i-preserved g c =
    let ks = c.args.kept.now.items in
    let o = c.args.options.now in
    let k = c.get-one.result.now in
    let later = c.and_later-here.ensures ∙ ap (and_later c.loop-i.here) c.measure.ensures in (
      pushed_again o c.loop-i.line c.in_ok-line.line c.loop-i.here c.and_later-here.result c.loop-i.found.items c.push_indentation_onward.new.found.items (indentation_in_sections o c.args.first c.args.before (drop c.args.end ks)) ks c.loop-i.i k
          (omega (arith, c.loop-i-test.true, c.len-i-end.ensures)) (got ks c.loop-i.i k c.get-one.ensures) (omega (arith, c.in_ok-line.ensures, c.rows.ensures)) later c.in_ok-push_indentation_onward.ensures c.loop-i.invariant.0,
      counts_more c.loop-i.here c.measure.result c.and_later-here.result k.facts c.and_later-here.ensures c.measure.ensures c.loop-i.invariant.1,
    )

pub returns : goal.returns
returns g c =
    let ks = c.args.kept.now.items in
    let o = c.args.options.now in
    none_again o c.loop-i.line c.loop-i.line c.loop-i.here c.loop-i.here c.loop-i.found.items c.loop-i.found.items (indentation_in_sections o c.args.first c.args.before (drop c.args.end ks)) ks c.loop-i.i
    (omega (arith, c.loop-i-test.false, c.len-i-end.ensures)) c.loop-i.invariant.0
