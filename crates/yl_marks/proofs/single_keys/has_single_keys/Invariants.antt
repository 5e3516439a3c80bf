use Rattle.std.proofs.Common.{◌≡◌, false, length}
use Rattle.yl_marks.specs.SingleKeys.{has_single_keys}
use Rattle.yl_marks.proofs.single_keys.has_single_keys.Given as goal

abbrev pub invariant-loop-rest : goal.invariant-loop-rest
invariant-loop-rest l =
    has_single_keys l.is_behind_closing l.rest ≡ has_single_keys false l.line

abbrev pub decreases-loop-rest : goal.decreases-loop-rest
decreases-loop-rest l = length l.rest
