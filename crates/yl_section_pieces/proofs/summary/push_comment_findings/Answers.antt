use Rattle.yl_section_pieces.proofs.CommentsFound.{found_done, found_on}
use Rattle.yl_section_pieces.proofs.summary.push_comment_findings.Goals as goal

pub loop-comment-preserved : goal.loop-comment-preserved
loop-comment-preserved g c =
    found_on c.args.config.now c.args.comments.now c.loop-comment.comment-index c.loop-comment.found.items _ c.loop-comment.invariant c.comment-item.result _ c.loop-comment-test.true c.comment-item.is
    c.placed.ensures c.append.new.self.items c.in_ok-more.more.items c.in_ok-more.ensures c.in_ok-append.ensures.items

pub returns : goal.returns
returns g c = found_done c.args.config.now c.args.comments.now c.loop-comment.comment-index c.loop-comment.found.items _ c.loop-comment.invariant c.loop-comment-test.false
