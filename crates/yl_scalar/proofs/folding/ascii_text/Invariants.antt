use Rattle.std.proofs.Common.{◌≡◌, ◌≤◌, length, take, vec_capacity}
use Rattle.yl_scalar.proofs.folding.ascii_text.Given as goal

abbrev pub invariant-loop-c : goal.invariant-loop-c
invariant-loop-c g l = record {
  items : l.bytes.items ≡ take l.c-index l.characters;
  room : length l.characters ≤ vec_capacity l.bytes;
}
