use Rattle.std.proofs.Common.{◌≡◌, take}
use Rattle.std.specs.List.{flat_map}
use Rattle.yl_rules.specs.Comments.{comment_findings}
use Rattle.yl_lexeme.specs.PlacedComments.{placed_comment_value}
use Rattle.yl_rules.proofs.comments.comment_problems.Given as goal

abbrev pub invariant-loop-comment : goal.invariant-loop-comment
invariant-loop-comment g l = l.found.items ≡ flat_map (λ c. comment_findings l.options (placed_comment_value c)) (take l.comment-index l.comments)
