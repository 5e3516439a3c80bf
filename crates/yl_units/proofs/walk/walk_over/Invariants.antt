use Rattle.std.proofs.Common.{◌≡◌, length}
use Rattle.std.specs.Str.{encode_utf8_all}
use Rattle.yl_units.specs.Units.{units_of}
use Rattle.yl_units.proofs.walk.walk_over.Given as goal

abbrev pub invariant-loop-c : goal.invariant-loop-c
invariant-loop-c l = record {
  walked : l.walked ≡ length l.yielded;
  byte : l.byte ≡ length (encode_utf8_all l.yielded);
  units : l.units ≡ units_of l.encoding l.yielded;
}
