use Rattle.std.proofs.Common.{◌≡◌, take}
use Rattle.yl_piece_names.proofs.asked_key.are_same_asked.Given as goal

abbrev pub invariant-loop-i : goal.invariant-loop-i
invariant-loop-i g l = take l.i l.one ≡ take l.i l.other
