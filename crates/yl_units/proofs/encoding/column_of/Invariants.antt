use Rattle.std.proofs.Common.{◌≡◌, ◌+◌, length, drop}
use Rattle.std.specs.Str.{chars}
use Rattle.yl_units.specs.Units.{column_of}
use Rattle.yl_units.proofs.encoding.column_of.Given as goal

abbrev pub invariant-loop-c : goal.invariant-loop-c
invariant-loop-c l = (l.column ≡ length l.yielded) × (l.column + column_of l.encoding (drop l.column (chars l.line)) l.left ≡ column_of l.encoding (chars l.line) l.units)
