use Rattle.std.proofs.Common.{◌≡◌, ◌+◌, ◌++◌, List, drop}
use Rattle.yl_text.specs.Lines.{RowValue}
use Rattle.yl_lint.specs.Left.{lines_left}
use Rattle.yl_lint.proofs.lines.pass_all.Given as goal

abbrev pub invariant-loop-row : goal.invariant-loop-row
invariant-loop-row g l = record {
  count : l.reader.runs.count ≡ l.initial.reader.runs.count + l.row-index;
  left : (later : List RowValue) → lines_left l.reader (drop l.row-index l.rows ++ later) ≡ lines_left l.initial.reader (l.rows ++ later);
}
