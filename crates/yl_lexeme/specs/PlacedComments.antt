-- Bridge: the value of a comment at its position in a text.
use Rattle.yl_lexeme.specs.declared.placed.PlacedComment.{PlacedComment}
use Rattle.yl_lexeme.specs.Lexeme.{PlacedCommentValue}

abbrev pub placed_comment_value : PlacedComment → PlacedCommentValue
placed_comment_value c = record { line = c.line; column = c.col; text = c.text.now; behind = c.behind }
