use Rattle.std.proofs.Common.{ap, ◌∙◌}
use Rattle.std.specs.Str.{chars}
use Rattle.std.proofs.lemmas.Str.{chars-nil}
use Rattle.yl_text.proofs.inline_string.InlineString.new.Goals as goal

pub returns : goal.returns
returns g c = ap chars c.new-text.ensures ∙ chars-nil
