use Rattle.std.proofs.Common.{◌≡◌, arith, sym, subst, ◌∙◌}
use Rattle.std.specs.Str.{IsUtf8}
use Rattle.std.proofs.lemmas.List.{take_all}
use Rattle.std.proofs.lemmas.Str.{IsUtf8-from_ascii}
use Rattle.yl_text.proofs.inline_string.short_text.Goals as goal

pub from_utf8_unchecked-text-requires : goal.from_utf8_unchecked-text-requires
from_utf8_unchecked-text-requires c =
    let all : c.loop-c.bytes.items ≡ c.args.characters.now = c.loop-c.invariant ∙ take_all c.loop-c.c-index c.args.characters.now (omega arith) in
    subst IsUtf8 (sym (c.as_slice.ensures.value ∙ all)) (IsUtf8-from_ascii c.args.characters.now c.requires)
