use Rattle.std.proofs.Common.{◌≡◌}
use lib.Pointwise.{pointwise}
use Rattle.yl_lexeme.proofs.blocks.Items.are_few_and_like.Given as goal

abbrev pub invariant-loop-i : goal.invariant-loop-i
invariant-loop-i g l = pointwise g.T.PartialEq.eq l.self l.other ≡ pointwise g.T.PartialEq.eq l.fn.self l.fn.other
