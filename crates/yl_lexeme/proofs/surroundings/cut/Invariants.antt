use Rattle.std.proofs.Common.{◌≡◌, length}
use Rattle.yl_lexeme.specs.Past.{up_to}
use Rattle.yl_lexeme.proofs.surroundings.cut.Given as goal

abbrev pub invariant-loop-top : goal.invariant-loop-top
invariant-loop-top g l = up_to l.column l.levels ≡ up_to l.column l.fn.levels

abbrev pub decreases-loop-top : goal.decreases-loop-top
decreases-loop-top g l = length l.levels
