use Rattle.std.proofs.Common.{ap, ◌∙◌}
use Rattle.std.specs.Str.{chars}
use Rattle.std.proofs.lemmas.Str.{chars-IsAscii}
use Rattle.yl_text.proofs.inline_string.InlineString.of_ascii.Goals as goal

pub returns : goal.returns
returns g c = ap chars c.in_ok-text.ensures ∙ chars-IsAscii c.args.characters.now c.requires
