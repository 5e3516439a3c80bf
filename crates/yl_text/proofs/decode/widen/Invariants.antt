use Rattle.std.proofs.Common.{◌≡◌, take}
use Rattle.yl_text.proofs.decode.widen.Given as goal

abbrev pub invariant-loop-i : goal.invariant-loop-i
invariant-loop-i l = take l.i l.characters ≡ take l.i l.bytes
