use Rattle.std.proofs.Common.{◌≡◌, ◌-◌, ◌++◌, map, take, drop}
use Rattle.yl_lexeme.specs.PlacedComments.{placed_comment_value}
use Rattle.yl_lint.specs.TextReport.{comments_in_sections}
use Rattle.yl_found.proofs.gathered.push_among.Given as goal

abbrev pub invariant-loop-i : goal.invariant-loop-i
invariant-loop-i g l =
    map placed_comment_value l.comments.items ++ comments_in_sections l.line (take (l.end - l.i) (drop l.i l.sections)) ≡ map placed_comment_value l.fn.comments.items ++ comments_in_sections l.fn.row (take (l.end - l.from) (drop l.from l.sections))
