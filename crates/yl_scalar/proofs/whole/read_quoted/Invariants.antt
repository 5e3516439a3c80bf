use Rattle.std.proofs.Common.{◌≡◌, ◌≤◌, drop}
use Rattle.std.specs.Prelude.{map}
use Rattle.yl_scalar.specs.Reading.{outcome_of_lines}
use Rattle.yl_scalar.specs.QuotedSteps.{quoted, quoted_step, quoted_finish}
use Rattle.yl_scalar.specs.Reader.{quoted_reader_value, quoted_rows}
use Rattle.yl_scalar.proofs.whole.read_quoted.Given as goal

-- what was read and what is left make the whole
abbrev pub invariant-loop-row : goal.invariant-loop-row
invariant-loop-row g l = record {
  whole : outcome_of_lines quoted_step quoted_finish (quoted_reader_value l.reader) (map (λ row. row.now) (drop l.row-index l.rows)) ≡ quoted l.double l.opening l.text (map (λ row. row.now) l.rows);
  count : quoted_rows l.reader ≤ l.row-index;
}
