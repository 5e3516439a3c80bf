use Rattle.yl_units.specs.declared.encoding.Encoding.TheVariants.{Utf16}
use Rattle.yl_units.specs.Places.{IsReached}
use Rattle.yl_lsp_tests.proofs.ranges.are_ranges_of.Given as goal

abbrev pub invariant-loop-col : goal.invariant-loop-col
invariant-loop-col g l = IsReached Utf16 (g.S.Lines.rows l.lines) l.walk
