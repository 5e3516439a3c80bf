use Rattle.std.proofs.Common.{◌≡◌, ◌+◌, ◌++◌, reverse, drop}
use Rattle.yl_marks.specs.Marks.{marks, open_behind_all}
use Rattle.yl_marks.proofs.marks.marks.Given as goal

abbrev pub invariant-loop-i : goal.invariant-loop-i
invariant-loop-i g l = record {
  left : open_behind_all l.pieces (reverse l.collections.items) (l.first + l.i) (drop l.i l.pieces) ≡ open_behind_all l.pieces (reverse l.fn.collections.items) l.first l.pieces;
  marks : l.symbols.items ++ marks l.pieces (reverse l.collections.items) (l.first + l.i) (drop l.i l.pieces)
      ≡ l.fn.symbols.items ++ marks l.pieces (reverse l.fn.collections.items) l.first l.pieces;
}
