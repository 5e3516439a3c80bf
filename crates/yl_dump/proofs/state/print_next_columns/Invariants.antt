use Rattle.std.proofs.Common.{◌≡◌, ◌++◌, drop}
use Rattle.std.specs.List.{flat_map}
use Rattle.yl_dump.specs.StateLine.{next_column}
use Rattle.yl_dump.proofs.state.print_next_columns.Given as goal

abbrev pub invariant-loop-column : goal.invariant-loop-column
invariant-loop-column g l = l.page ++ flat_map next_column (drop l.column-index l.columns) ≡ l.fn.page ++ flat_map next_column l.columns
