use Rattle.std.proofs.Common.{◌≡◌, ◌≤◌, ◌+◌, ◌++◌, length, take, vec_capacity}
use Rattle.std.specs.Prelude.{string_bytes}
use Rattle.yl_scalar.proofs.folding.with_ascii.Given as goal

abbrev pub invariant-loop-c : goal.invariant-loop-c
invariant-loop-c g l = record {
  items : l.bytes.items ≡ string_bytes l.fn.text ++ take l.c-index l.characters;
  room : length (string_bytes l.fn.text) + length l.characters ≤ vec_capacity l.bytes;
}
