-- Bridge: which comments speak to the linter, of those that are handed in.
use Rattle.std.specs.Prelude.{Bool}
use Rattle.yl_lexeme.specs.declared.placed.PlacedComment.{PlacedComment}
use Rattle.yl_lexeme.specs.PlacedComments.{placed_comment_value}
use Rattle.yl_rules.specs.Addressed.{is_addressed}

abbrev pub is_addressed_comment : PlacedComment → Bool
is_addressed_comment c = is_addressed (placed_comment_value c)
