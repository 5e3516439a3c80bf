use Rattle.std.proofs.Common.{◌≡◌, ◌++◌, drop}
use Rattle.yl_sections.specs.Kept.{shown_comment_findings}
use Rattle.yl_section_pieces.proofs.summary.push_comment_findings.Given as goal

abbrev pub invariant-loop-comment : goal.invariant-loop-comment
invariant-loop-comment g l =
    l.found.items ++ shown_comment_findings l.config (drop l.comment-index l.comments) ≡ l.fn.found.items ++ shown_comment_findings l.config l.comments
