use Rattle.std.proofs.Common.{◌≡◌, ◌++◌, map, drop}
use Rattle.yl_lexeme.specs.PlacedComments.{placed_comment_value}
use Rattle.yl_lint.specs.TextReport.{comments_in_sections}
use Rattle.yl_lint.proofs.comments.comments_in_sections.Given as goal

abbrev pub invariant-loop-one : goal.invariant-loop-one
invariant-loop-one g l = map placed_comment_value l.comments.items ++ comments_in_sections l.line (map (λ k. k.now) (drop l.one-index l.kept)) ≡ comments_in_sections 0 (map (λ k. k.now) l.kept)
