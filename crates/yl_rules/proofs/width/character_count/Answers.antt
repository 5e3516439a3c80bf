use Rattle.std.proofs.Common.{◌≡◌, ◌∙◌, ap, take, take_all}
use Rattle.std.specs.List.{count_by}
use Rattle.yl_rules.proofs.Encoded.{begins}
use Rattle.yl_rules.proofs.Texts.{count-chars}
use Rattle.yl_rules.proofs.width.character_count.Goals as goal

pub returns-clause-exact : goal.returns-clause-exact
returns-clause-exact c =
    let bytes = c.as_bytes-byte-items.result.now in
    let whole : take c.loop-byte.byte-index bytes ≡ bytes = take_all c.loop-byte.byte-index bytes c.loop-byte-test.false in
    c.loop-byte.invariant.count ∙ ap (count_by begins) (whole ∙ c.as_bytes-byte-items.ensures.value) ∙ count-chars c.args.text.now c.utf8.text
