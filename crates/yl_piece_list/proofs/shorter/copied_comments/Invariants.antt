use Rattle.std.proofs.Common.{◌≡◌, ◌++◌, drop}
use Rattle.yl_piece_list.proofs.shorter.copied_comments.Given as goal

abbrev pub invariant-loop-comment : goal.invariant-loop-comment
invariant-loop-comment g l = l.copies.items ++ drop l.comment-index l.comments ≡ l.comments
