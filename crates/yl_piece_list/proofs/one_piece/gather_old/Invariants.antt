use Rattle.std.proofs.Common.{◌≡◌, take, drop, map}
use Rattle.yl_piece_list.proofs.one_piece.gather_old.Given as goal

abbrev pub invariant-loop-i : goal.invariant-loop-i
invariant-loop-i g l = map (λ r. r.now) l.all.items ≡ drop l.x (take l.i l.old.items)
