use Rattle.std.proofs.Common.{◌≡◌, ◌++◌, reverse, vec_len}
use Rattle.yl_marks.specs.Marks.{collections_left, closings}
use Rattle.yl_marks.proofs.marks.close.Given as goal

abbrev pub invariant-loop-c : goal.invariant-loop-c
invariant-loop-c g l = record {
  left : collections_left l.m (reverse l.collections.items) ≡ collections_left l.m (reverse l.fn.collections.items);
  closed : l.symbols.items ++ closings l.m (reverse l.collections.items) ≡ l.fn.symbols.items ++ closings l.m (reverse l.fn.collections.items);
}

abbrev pub decreases-loop-c : goal.decreases-loop-c
decreases-loop-c g l = vec_len l.collections
