use Rattle.std.proofs.Common.{◌≡◌, ◌++◌, drop}
use Rattle.yl_rules.specs.Runs.{run_findings}
use Rattle.yl_rules.specs.RunsLeft.{runs_left}
use Rattle.yl_rules.proofs.runs.run_problems.Given as goal

abbrev pub invariant-loop-i : goal.invariant-loop-i
invariant-loop-i g l = record {
  count : l.reader.count ≡ l.i;
  left : l.found.items ++ runs_left l.reader (drop l.i (g.L.Lines.rows l.lines)) ≡ run_findings l.options (g.L.Lines.rows l.lines);
}
