use Rattle.std.proofs.Common.{◌≡◌, ◌≤◌, ◌-◌, drop, length}
use Rattle.yl_config.specs.Config.{options_of}
use Rattle.yl_lint.specs.Left.{lines_left}
use Rattle.yl_lint.specs.TextReport.{findings_in_lines}
use Rattle.yl_lint.proofs.lines.find_in_lines.Given as goal

abbrev pub invariant-loop-passed : goal.invariant-loop-passed
invariant-loop-passed g l = record {
  within : l.passed ≤ length (g.L.Lines.rows l.lines);
  count : l.reader.runs.count ≡ l.passed;
  left : lines_left l.reader (drop l.passed (g.L.Lines.rows l.lines)) ≡ findings_in_lines (options_of l.config) (g.L.Lines.rows l.lines);
}

abbrev pub decreases-loop-passed : goal.decreases-loop-passed
decreases-loop-passed g l = length (g.L.Lines.rows l.lines) - l.passed
