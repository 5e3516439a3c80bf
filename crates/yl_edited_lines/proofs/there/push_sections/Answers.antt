use Rattle.std.proofs.Common.{◌++◌, ap, arith, ◌∙◌}
use Rattle.yl_indentation.specs.Measures.{and_later}
use Rattle.yl_lint.specs.Onward.{onward_in_sections}
use Rattle.yl_edited_lines.proofs.Pushed.{counts_more, pushed_next}
use Rattle.yl_edited_lines.proofs.there.push_sections.Goals as goal

pub loop-one-preserved : goal.loop-one-preserved
loop-one-preserved g c =
    let k = c.one-item.result in
    let later = c.and_later-here.ensures ∙ ap (and_later c.loop-one.here) c.measure.ensures in (
      pushed_next c.args.options.now c.loop-one.line c.in_ok-line.line c.loop-one.here c.and_later-here.result c.loop-one.found.items c.push_section_onward.new.found.items
          (c.args.found.now.items ++ onward_in_sections c.args.options.now c.args.down c.args.before c.args.kept.now) c.args.kept.now c.loop-one.one-index k c.loop-one-test.true c.one-item.is (omega (arith, c.in_ok-line.ensures, c.rows.ensures)) later
          c.in_ok-push_section_onward.ensures c.loop-one.invariant.0,
      counts_more c.loop-one.here c.measure.result c.and_later-here.result k.facts c.and_later-here.ensures c.measure.ensures c.loop-one.invariant.1,
    )
