use Rattle.std.proofs.Common.{◌+◌, ◌∙◌, ap}
use Rattle.yl_rules.specs.RunsLeft.{runs_left}
use Rattle.yl_rules.proofs.Steps.{left_more}
use Rattle.yl_rules.proofs.runs.run_problems.Goals as goal

pub loop-i-preserved : goal.loop-i-preserved
loop-i-preserved g c = record {
  count = c.in_ok-pass.ensures.count ∙ ap (λ n. n + 1) c.loop-i.invariant.count;
  left = left_more runs_left (g.L.Lines.rows c.args.lines.now) c.loop-i.i c.row-row.result.now c.as_str.result.now c.end.result c.loop-i.reader c.pass.new.self c.loop-i.found.items c.pass.new.found.items _
      c.row-row.ensures c.as_str.ensures c.end.ensures c.in_ok-pass.ensures.found c.loop-i.invariant.left;
}
