use Rattle.std.proofs.Common.{◌≡◌, ◌≤◌, true, length, drop}
use Rattle.std.specs.Fmt.{digits, digits_onto}
use Rattle.yl_dump.proofs.quoting.write_hex.Given as goal

abbrev pub invariant-loop-at : goal.invariant-loop-at
invariant-loop-at l = record {
  within : l.at ≤ 64;
  room : length l.room ≡ 64;
  same : digits_onto l.at 16 true l.rest (drop l.at l.room) ≡ digits 16 true l.n;
}

abbrev pub decreases-loop-at : goal.decreases-loop-at
decreases-loop-at l = l.at
