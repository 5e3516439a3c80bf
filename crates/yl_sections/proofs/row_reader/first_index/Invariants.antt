use Rattle.std.proofs.Common.{◌≡◌, drop}
use Rattle.yl_sections.specs.RowReading.{first_index}
use Rattle.yl_sections.proofs.row_reader.first_index.Given as goal

abbrev pub invariant-loop-symbol : goal.invariant-loop-symbol
invariant-loop-symbol l = first_index (drop l.symbol-index l.symbols) ≡ first_index l.symbols
