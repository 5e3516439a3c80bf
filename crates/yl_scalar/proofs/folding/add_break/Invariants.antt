use Rattle.std.proofs.Common.{◌≡◌, ◌++◌}
use Rattle.std.specs.Prelude.{replicate, string_bytes}
use Rattle.std.specs.Str.{chars}
use Rattle.yl_scalar.proofs.folding.add_break.Given as goal

abbrev pub invariant-loop-i : goal.invariant-loop-i
invariant-loop-i g l = chars (string_bytes l.value) ≡ chars (string_bytes l.fn.value) ++ replicate l._i 10
