use Rattle.std.proofs.Common.{◌≡◌}
use Rattle.yl_patterns.proofs.reading.characters.Given as goal

abbrev pub invariant-loop-c : goal.invariant-loop-c
invariant-loop-c g l = l.characters.items ≡ l.yielded
