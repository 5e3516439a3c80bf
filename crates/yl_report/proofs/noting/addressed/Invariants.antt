use Rattle.std.proofs.Common.{◌≡◌, take}
use Rattle.std.specs.List.{filter}
use Rattle.yl_report.specs.Addressed.{is_addressed_comment}
use Rattle.yl_report.proofs.noting.addressed.Given as goal

abbrev pub invariant-loop-comment : goal.invariant-loop-comment
invariant-loop-comment g l = l.kept.items ≡ filter is_addressed_comment (take l.comment-index l.comments)
