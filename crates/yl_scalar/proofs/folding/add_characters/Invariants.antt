use Rattle.std.proofs.Common.{◌≡◌, ◌++◌, take}
use Rattle.std.specs.Prelude.{string_bytes}
use Rattle.std.specs.Str.{chars}
use Rattle.yl_scalar.proofs.folding.add_characters.Given as goal

abbrev pub invariant-loop-c : goal.invariant-loop-c
invariant-loop-c g l = chars (string_bytes l.value) ≡ chars (string_bytes l.fn.value) ++ take l.c-index l.characters
