use Rattle.std.proofs.Common.{length}
use Rattle.yl_lexeme.specs.Blocks.{items_under}
use Rattle.yl_lexeme.proofs.blocks.drop_blocks.Given as goal

abbrev pub decreases-loop-next : goal.decreases-loop-next
decreases-loop-next g l = length (items_under l.next)
