use Rattle.std.proofs.Common.{◌≡◌, ◌+◌, drop}
use Rattle.yl_scalar.specs.BlockLines.{deeper}
use Rattle.yl_scalar.proofs.block.deeper.Given as goal

abbrev pub invariant-loop-i : goal.invariant-loop-i
invariant-loop-i l = deeper l.column (l.i + 1) (drop l.i l.spaces) ≡ deeper l.column 1 l.spaces
