use Rattle.std.proofs.Common.{◌≡◌, ◌∙◌}
use Rattle.yl_rules.specs.LineLength.{is_non_breakable}
use Rattle.yl_rules.proofs.Texts.{is_non_breakable-chars}
use Rattle.yl_rules.proofs.line_length.is_non_breakable.Goals as goal

pub returns : goal.returns
returns c =
    let same : c.is_one_word.result ≡ is_non_breakable c.args.text.now = rw (c.is_one_word.ensures, c.past-inner.ensures, c.count_front.ensures, c.as_bytes-bytes.ensures.value) in
    same ∙ is_non_breakable-chars c.args.text.now c.utf8.text
