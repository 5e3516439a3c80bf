use Rattle.yl_retyped.specs.Rows.{AreRowsAlike}
use Rattle.yl_retyped.proofs.staying.are_rows_alike.Given as goal

abbrev pub invariant-loop-i : goal.invariant-loop-i
invariant-loop-i g l = AreRowsAlike l.options l.old.items l.new l.from l.i
