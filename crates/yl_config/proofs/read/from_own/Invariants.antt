use Rattle.std.proofs.Common.{◌≡◌, length}
use Rattle.yl_config.specs.Outcome.{from_own}
use Rattle.yl_config.proofs.read.from_own.Given as goal

abbrev pub invariant-loop-rest : goal.invariant-loop-rest
invariant-loop-rest g l = from_own l.rest ≡ from_own l.documents

abbrev pub decreases-loop-rest : goal.decreases-loop-rest
decreases-loop-rest g l = length l.rest
