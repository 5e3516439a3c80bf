use Rattle.std.proofs.Common.{◌≡◌, ◌≤◌, ◌+◌, ◌++◌, None, length, reverse}
use Rattle.yl_marks.specs.ByLine.{depth_behind_all}
use Rattle.yl_marks.specs.SingleKeys.{ahead_of_each, facts_of, latest_marked, marks_of, open_behind_each, single_markings}
use Rattle.yl_marks.proofs.single_keys.mark_single_keys.Given as goal

abbrev pub invariant-loop-rest : goal.invariant-loop-rest
invariant-loop-rest g l =
    let all = single_markings l.fn.earlier.count l.fn.earlier.depth l.fn.earlier.latest None l.line in
    let ms = single_markings l.earlier.count l.earlier.depth l.earlier.latest l.place l.rest in
    record {
      count : l.earlier.count + length l.rest ≡ l.fn.earlier.count + length l.line;
      most : l.earlier.depth ≤ l.earlier.count;
      depth : depth_behind_all l.earlier.depth l.rest ≡ depth_behind_all l.fn.earlier.depth l.line;
      latest : latest_marked l.earlier.latest ms ≡ latest_marked l.fn.earlier.latest all;
      ahead : ahead_of_each l.ahead ms ≡ ahead_of_each l.fn.ahead all;
      facts : l.keys.items ++ facts_of l.ahead ms ≡ l.fn.keys.items ++ facts_of l.fn.ahead all;
      left : open_behind_each (reverse l.collections.items) ms ≡ open_behind_each (reverse l.fn.collections.items) all;
      marks : l.symbols.items ++ marks_of (reverse l.collections.items) l.earlier.count ms ≡ l.fn.symbols.items ++ marks_of (reverse l.fn.collections.items) l.fn.earlier.count all;
    }

abbrev pub decreases-loop-rest : goal.decreases-loop-rest
decreases-loop-rest g l = length l.rest
