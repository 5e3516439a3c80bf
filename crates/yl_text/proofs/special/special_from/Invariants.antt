use Rattle.std.proofs.Common.{◌≡◌, ◌+◌, drop}
use Rattle.yl_text.specs.Special.{special_place}
use Rattle.yl_text.proofs.special.special_from.Given as goal

abbrev pub invariant-loop-i : goal.invariant-loop-i
invariant-loop-i l = l.at + special_place (drop l.at l.bytes) ≡ l.i + special_place (drop l.i l.bytes)
