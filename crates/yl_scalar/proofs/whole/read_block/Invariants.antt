use Rattle.std.proofs.Common.{◌≡◌, ◌≤◌, drop}
use Rattle.std.specs.Prelude.{map}
use Rattle.yl_scalar.specs.Reading.{outcome_of_lines}
use Rattle.yl_scalar.specs.Block.{block, block_step, block_finish}
use Rattle.yl_scalar.specs.Reader.{block_reader_value, block_rows}
use Rattle.yl_scalar.proofs.whole.read_block.Given as goal

-- what was read and what is left make the whole
abbrev pub invariant-loop-row : goal.invariant-loop-row
invariant-loop-row g l = record {
  whole : outcome_of_lines block_step block_finish (block_reader_value l.reader) (map (λ row. row.now) (drop l.row-index l.rows)) ≡ block l.least l.at l.header (map (λ row. row.now) l.rows);
  count : block_rows l.reader ≤ l.row-index;
}
