use Rattle.std.proofs.Common.{◌≡◌, ◌≤◌, ◌*◌, length, take}
use Rattle.std.specs.Str.{encode_utf8_all}
use Rattle.yl_scalar.proofs.folding.utf8_len.Given as goal

abbrev pub invariant-loop-c : goal.invariant-loop-c
invariant-loop-c l = record {
  bytes : l.len ≡ length (encode_utf8_all (take l.c-index l.characters));
  most : l.len ≤ 4 * l.c-index;
}
