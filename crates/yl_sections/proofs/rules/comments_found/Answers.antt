use Rattle.std.proofs.Common.{◌≡◌, map, ap, sym, ◌∙◌}
use Rattle.std.proofs.lemmas.Result.{IfOk-weaker}
use Rattle.std.specs.List.{flat_map}
use Rattle.yl_lexeme.specs.PlacedComments.{placed_comment_value}
use Rattle.yl_rules.specs.Comments.{comment_findings}
use Rattle.yl_rules.specs.declared.comments.CommentsOptions.{CommentsOptions}
use Rattle.yl_sections.specs.Kept.{shown_comment_findings}
use Rattle.yl_sections.proofs.Assembled.{comments_are}
use Rattle.yl_sections.proofs.rules.comments_found.Goals as goal

pub returns : goal.returns
returns g c =
    IfOk-weaker c.comment_problems.result (λ v. v.items ≡ flat_map (λ d. comment_findings c.comments_options.result.now (placed_comment_value d)) c.args.comments.now)
    (λ v. v.items ≡ shown_comment_findings c.args.config.now (map placed_comment_value c.args.comments.now))
    (λ v e. comments_are c.args.config.now placed_comment_value c.args.comments.now v.items (sym c.is_on.ensures ∙ c.if-not-is_on.false)
    (e ∙ ap (λ (o : CommentsOptions). flat_map (λ d. comment_findings o (placed_comment_value d)) c.args.comments.now) c.comments_options.ensures))
    c.comment_problems.ensures
