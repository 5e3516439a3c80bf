use Rattle.std.proofs.Common.{ap, ◌∙◌}
use Rattle.yl_text.specs.Character.{indentation}
use Rattle.yl_record.proofs.Spaces.{spaces_in_bytes}
use Rattle.yl_record.proofs.white.leading_spaces.Goals as goal

pub returns : goal.returns
returns c = c.leading_spaces_in.ensures ∙ ap indentation c.as_bytes.ensures.value ∙ spaces_in_bytes c.args.text.now c.utf8.text
