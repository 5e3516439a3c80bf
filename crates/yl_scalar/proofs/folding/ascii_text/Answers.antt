use Rattle.std.proofs.Common.{◌≡◌, arith, sym, subst, ◌∙◌}
use Rattle.std.specs.Str.{IsAscii}
use Rattle.std.proofs.lemmas.List.{take_all}
use Rattle.yl_scalar.proofs.folding.ascii_text.Goals as goal

pub text_of_ascii-requires : goal.text_of_ascii-requires
text_of_ascii-requires g c =
    let all : c.loop-c.bytes.items ≡ c.args.characters.now =
    c.loop-c.invariant.items ∙ take_all c.loop-c.c-index c.args.characters.now (omega arith) in
    subst IsAscii (sym all) c.requires
