use Rattle.std.proofs.Common.{◌∙◌, ap, take, map}
use Rattle.yl_lexeme.specs.PlacedComments.{placed_comment_value}
use Rattle.yl_rules.specs.LevelOf.{level_of}
use Rattle.yl_report.specs.Silence.{is_file_silenced_by, is_silenced_at}
use Rattle.yl_lint.proofs.Together.{put_together}
use Rattle.yl_lint.proofs.assembling.report_of_kept.Goals as goal

pub returns : goal.returns
returns g c =
    let same = put_together c.args.config.now c.args.found.items c.in_ok-found.found.items c.args.first.now c.args.end (map (λ k. k.now) c.args.kept.now)
    (map (λ k. k.now) (take c.count_shown.result c.args.kept.now)) (level_of c.levels.result.now) (map placed_comment_value c.deref.result.now)
    (is_file_silenced_by c.in_ok-silences.silences) (is_silenced_at c.in_ok-silences.silences)
    c.count_shown.ensures.shown (ap (map placed_comment_value) c.deref.ensures.value ∙ c.in_ok-comments.ensures) c.in_ok-silences.ensures.file c.in_ok-silences.ensures.lines
    c.in_ok-found.ensures c.levels.ensures in
    rw same at c.arrange.ensures
