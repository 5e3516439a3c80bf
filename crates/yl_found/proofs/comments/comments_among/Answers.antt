use Rattle.std.proofs.Common.{◌-◌, ◌++◌, map, take, drop, ap, ◌∙◌}
use Rattle.yl_lexeme.specs.PlacedComments.{placed_comment_value}
use Rattle.yl_lint.specs.TextReport.{comments_in_sections}
use Rattle.yl_found.proofs.comments.comments_among.Goals as goal

pub returns : goal.returns
returns g c =
    c.in_ok-push_among.ensures ∙ ap (λ cs. map placed_comment_value cs ++ comments_in_sections c.args.row (take (c.args.end - c.args.from) (drop c.args.from c.args.sections.now))) c.new-comments.ensures.items
