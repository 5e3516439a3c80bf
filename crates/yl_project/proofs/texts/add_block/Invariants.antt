use Rattle.std.proofs.Common.{◌≡◌, drop}
use Rattle.yl_project.specs.Texts.{block_lines, with_lines}
use Rattle.yl_project.proofs.texts.add_block.Given as goal

abbrev pub invariant-loop-row : goal.invariant-loop-row
invariant-loop-row g l = with_lines l.patterns (block_lines l.column (drop l.row-index l.rows)) ≡ with_lines l.fn.patterns (block_lines l.column l.rows)
