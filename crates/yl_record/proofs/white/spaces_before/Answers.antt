use Rattle.std.proofs.Common.{arith, ◌==◌}
use Rattle.std.specs.Str.{chars}
use Rattle.std.proofs.lemmas.List.Sums.{prefix_len-le-length}
use Prim.Native.Char.{code}
use Rattle.yl_record.proofs.white.spaces_before.Goals as goal

pub overflow_cast-result : goal.overflow_cast-result
overflow_cast-result c = record { fits = omega (arith, c.leading_spaces.ensures, prefix_len-le-length (λ x. x == code " ") (chars c.args.text.now), c.requires) }
