use Rattle.std.proofs.Common.{◌≡◌, map, take}
use Rattle.yl_lexeme.specs.PlacedComments.{placed_comment_value}
use Rattle.yl_edited_lines.proofs.switches.have_same_texts.Given as goal

abbrev pub invariant-loop-i : goal.invariant-loop-i
invariant-loop-i l = map (λ c. c.text) (map placed_comment_value (take l.i l.one)) ≡ map (λ c. c.text) (map placed_comment_value (take l.i l.other))
