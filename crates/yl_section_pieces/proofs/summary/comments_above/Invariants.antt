use Rattle.std.proofs.Common.{◌≡◌, ◌++◌, map, drop}
use Rattle.std.specs.List.{filter}
use Rattle.yl_rules.specs.Addressed.{is_addressed}
use Rattle.yl_piece_reports.specs.Told.{comment_above}
use Rattle.yl_section_pieces.proofs.summary.comments_above.Given as goal

abbrev pub invariant-loop-comment : goal.invariant-loop-comment
invariant-loop-comment g l = l.all.items ++ map (comment_above 1) (filter is_addressed (drop l.comment-index l.comments)) ≡ map (comment_above 1) (filter is_addressed l.comments)
