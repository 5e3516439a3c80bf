use Rattle.std.proofs.Common.{◌≡◌, ◌++◌, ap, arith, sym, subst, ◌∙◌}
use Rattle.std.specs.Prelude.{string_bytes}
use Rattle.std.specs.Str.{IsUtf8}
use Rattle.std.proofs.lemmas.List.{take_all}
use Rattle.std.proofs.lemmas.Str.{IsUtf8-append, IsUtf8-from_ascii, IsUtf8-had}
use Rattle.yl_scalar.proofs.folding.with_ascii.Goals as goal

pub text_of_utf8-requires : goal.text_of_utf8-requires
text_of_utf8-requires g c =
    let cs = c.args.characters.now in
    let old = string_bytes c.args.text in
    let all : c.loop-c.bytes.items ≡ old ++ cs = c.loop-c.invariant.items ∙ ap (λ xs. old ++ xs) (take_all c.loop-c.c-index cs (omega arith)) in
    subst IsUtf8 (sym all) (IsUtf8-append old cs (IsUtf8-had old c.args.text.ok) (IsUtf8-from_ascii cs c.requires))
