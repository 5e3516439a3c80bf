use Rattle.std.proofs.Common.{◌-◌, ◌++◌, map, take, drop, ap, arith, ◌∙◌}
use Rattle.yl_lexeme.specs.PlacedComments.{placed_comment_value}
use Rattle.yl_lint.specs.TextReport.{comments_in_sections, moved_comment}
use Rattle.yl_found.proofs.SilencingSections.{comments_end, comments_next}
use Rattle.yl_sections.proofs.KeptRows.{got}
use Rattle.yl_found.proofs.gathered.push_among.Goals as goal

pub loop-i-preserved : goal.loop-i-preserved
loop-i-preserved g c =
    let ks = c.args.sections.now in
    comments_next ks c.loop-i.i c.args.end c.loop-i.line c.in_ok-line.line c.get-one.result.now (map placed_comment_value c.loop-i.comments.items) (map placed_comment_value c.push_comments.new.comments.items)
    (map placed_comment_value c.args.comments.now.items ++ comments_in_sections c.args.row (take (c.args.end - c.args.from) (drop c.args.from ks))) c.loop-i-test.true c.requires (got ks c.loop-i.i c.get-one.result.now c.get-one.ensures)
    (c.in_ok-push_comments.ensures ∙ ap (λ cs. map placed_comment_value c.loop-i.comments.items ++ map (moved_comment c.loop-i.line) cs) c.comments.ensures) (omega (arith, c.in_ok-line.ensures, c.rows.ensures)) c.loop-i.invariant

pub returns : goal.returns
returns g c =
    comments_end c.args.sections.now c.args.end c.loop-i.i c.loop-i.line (map placed_comment_value c.loop-i.comments.items)
    (map placed_comment_value c.args.comments.now.items ++ comments_in_sections c.args.row (take (c.args.end - c.args.from) (drop c.args.from c.args.sections.now))) c.loop-i-test.false c.loop-i.invariant
