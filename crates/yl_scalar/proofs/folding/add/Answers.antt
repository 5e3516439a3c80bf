use Rattle.std.proofs.Common.{ap, ◌∙◌}
use Rattle.std.specs.Prelude.{string_bytes}
use Rattle.std.specs.Str.{chars}
use Rattle.yl_scalar.proofs.Encodes.{chars_push}
use Rattle.yl_scalar.proofs.folding.add.Goals as goal

pub returns : goal.returns
returns g c = ap chars c.in_ok-push.ensures.bytes ∙ chars_push (string_bytes c.args.value.now) c.args.c c.args.value.now.ok c.ranges.c.0
