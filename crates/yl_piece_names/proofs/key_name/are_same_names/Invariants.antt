use Rattle.std.proofs.Common.{◌≡◌, length, take}
use Rattle.yl_piece_names.proofs.key_name.are_same_names.Given as goal

abbrev pub invariant-loop-name : goal.invariant-loop-name
invariant-loop-name g l = take (length l.yielded) l.one ≡ take (length l.yielded) l.other
