use Rattle.std.proofs.Common.{◌≡◌, length}
use Rattle.yl_config.specs.Syntax.{parse_fault}
use Rattle.yl_config.proofs.syntax.parse_fault.Given as goal

abbrev pub invariant-loop-rest : goal.invariant-loop-rest
invariant-loop-rest g l = parse_fault l.end l.rest ≡ parse_fault l.end l.documents

abbrev pub decreases-loop-rest : goal.decreases-loop-rest
decreases-loop-rest g l = length l.rest
