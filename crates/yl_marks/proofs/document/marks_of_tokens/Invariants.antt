use Rattle.std.proofs.Common.{◌≡◌, ◌≤◌, ◌++◌, ◌-◌, length, drop}
use Rattle.yl_marks.specs.ByLine.{marker_at_start, by_line, marks_by_lines}
use Rattle.yl_marks.specs.FactsByLine.{facts_by_lines, key_marker_at_start}
use Rattle.yl_marks.proofs.document.marks_of_tokens.Given as goal

abbrev pub invariant-loop-read : goal.invariant-loop-read
invariant-loop-read g l = record {
  within : l.read ≤ length l.tokens;
  symbols : l.symbols.items ++ marks_by_lines l.marker.marks (by_line (drop l.read l.tokens))
      ≡ marks_by_lines marker_at_start (by_line l.tokens);
  keys : l.keys.items ++ facts_by_lines l.marker (by_line (drop l.read l.tokens))
      ≡ facts_by_lines key_marker_at_start (by_line l.tokens);
}

abbrev pub decreases-loop-read : goal.decreases-loop-read
decreases-loop-read g l = length l.tokens - l.read
