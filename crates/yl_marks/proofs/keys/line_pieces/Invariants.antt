use Rattle.std.proofs.Common.{◌≡◌, ◌≤◌, ◌+◌, ◌++◌, length, drop}
use Rattle.yl_lexeme.specs.Kept.{no_key_unit}
use Rattle.yl_marks.specs.ByLine.{depth_behind_all, latest_of}
use Rattle.yl_marks.proofs.InLine.{kept_pieces}
use Rattle.yl_marks.proofs.keys.line_pieces.Given as goal

abbrev pub invariant-loop-i : goal.invariant-loop-i
invariant-loop-i g l = record {
  pieces : l.pieces.items ++ kept_pieces l.earlier.count l.earlier.depth l.earlier.latest l.unit (drop l.i l.tokens)
      ≡ kept_pieces l.fn.earlier.count l.fn.earlier.depth l.fn.earlier.latest no_key_unit l.tokens;
  len : length l.pieces.items ≡ l.i;
  count : l.earlier.count ≡ l.fn.earlier.count + l.i;
  depth : depth_behind_all l.earlier.depth (drop l.i l.tokens) ≡ depth_behind_all l.fn.earlier.depth l.tokens;
  latest : latest_of l.earlier.latest (kept_pieces l.earlier.count l.earlier.depth l.earlier.latest l.unit (drop l.i l.tokens))
      ≡ latest_of l.fn.earlier.latest (kept_pieces l.fn.earlier.count l.fn.earlier.depth l.fn.earlier.latest no_key_unit l.tokens);
  most : l.earlier.depth ≤ l.earlier.count;
}
