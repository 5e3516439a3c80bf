use Rattle.std.proofs.Common.{◌≡◌, ◌++◌, length}
use denote.Text.{Utf8}
use denote.Shadow.{shadow}
use Rattle.yl_text.specs.Lines.{lines_of}
use Rattle.yl_text.specs.PutLines.{front_of}
use Rattle.yl_difference.specs.Rest.{IsRest}
use Rattle.yl_difference.proofs.front.without_front.Given as goal

abbrev pub invariant-loop-first : goal.invariant-loop-first
invariant-loop-first l = record {
  left : shadow (Utf8 l.left);
  right : shadow (Utf8 l.right);
  old : IsRest l.old l.lines l.left;
  new : front_of (lines_of l.old) l.lines ++ l.right ≡ l.new;
}

abbrev pub decreases-loop-first : goal.decreases-loop-first
decreases-loop-first l = length l.left
