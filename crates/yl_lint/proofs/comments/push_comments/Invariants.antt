use Rattle.std.proofs.Common.{◌≡◌, ◌++◌, map, drop}
use Rattle.yl_lexeme.specs.PlacedComments.{placed_comment_value}
use Rattle.yl_lint.specs.TextReport.{moved_comment}
use Rattle.yl_lint.proofs.comments.push_comments.Given as goal

abbrev pub invariant-loop-one : goal.invariant-loop-one
invariant-loop-one g l =
    map placed_comment_value l.comments.items ++ map (moved_comment l.line) (drop l.one-index l.from)
    ≡ map placed_comment_value l.fn.comments.items ++ map (moved_comment l.line) l.from
