use Rattle.std.proofs.Common.{◌≡◌, ◌≤◌, length, vec_capacity}
use Rattle.yl_text.proofs.decode.characters_of.Given as goal

abbrev pub invariant-loop-c : goal.invariant-loop-c
invariant-loop-c g l = (l.buffer.items ≡ l.yielded) × (length l.text ≤ vec_capacity l.buffer)
