use Rattle.std.proofs.Common.{map, drop}
use Rattle.std.specs.List.{AllByRecursion}
use Rattle.yl_lexeme.specs.PlacedComments.{placed_comment_value}
use Rattle.yl_edited_lines.specs.Switches.{SpeaksWithin}
use Rattle.yl_edited_lines.proofs.switches.speak_within.Given as goal

abbrev pub invariant-loop-comment : goal.invariant-loop-comment
invariant-loop-comment l =
    AllByRecursion (SpeaksWithin l.rows) (map placed_comment_value (drop l.comment-index l.comments)) → AllByRecursion (SpeaksWithin l.rows) (map placed_comment_value l.comments)
