use Rattle.std.proofs.Common.{◌≡◌, ◌++◌, drop}
use Rattle.yl_marks.specs.Marks.{closings_of_all}
use Rattle.yl_marks.proofs.marks.close_all.Given as goal

abbrev pub invariant-loop-collection : goal.invariant-loop-collection
invariant-loop-collection g l = l.symbols.items ++ closings_of_all (drop l._collection-index l.collections) ≡ l.fn.symbols.items ++ closings_of_all l.collections
