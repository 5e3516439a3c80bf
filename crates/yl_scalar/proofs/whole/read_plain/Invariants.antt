use Rattle.std.proofs.Common.{◌≡◌, ◌≤◌, drop}
use Rattle.std.specs.Prelude.{map}
use Rattle.yl_scalar.specs.Reading.{outcome_of_lines}
use Rattle.yl_scalar.specs.PlainSteps.{plain, plain_step, plain_finish}
use Rattle.yl_scalar.specs.Reader.{plain_reader_value, plain_rows}
use Rattle.yl_scalar.proofs.whole.read_plain.Given as goal

-- what was read and what is left make the whole
abbrev pub invariant-loop-row : goal.invariant-loop-row
invariant-loop-row g l = record {
  whole : outcome_of_lines plain_step plain_finish (plain_reader_value l.reader) (map (λ row. row.now) (drop l.row-index l.rows)) ≡ plain l.flow l.least l.at l.text (map (λ row. row.now) l.rows);
  count : plain_rows l.reader ≤ l.row-index;
}
