use Rattle.std.proofs.Common.{◌++◌, ap, ◌∙◌}
use Rattle.std.specs.Prelude.{string_bytes}
use Rattle.std.specs.Str.{chars}
use Rattle.std.proofs.lemmas.Str.{chars-IsAscii, chars-append, IsUtf8-had}
use Rattle.yl_scalar.proofs.folding.with_characters.Goals as goal

pub returns-then-is_ascii : goal.returns-then-is_ascii
returns-then-is_ascii g c =
    let cs = c.args.characters.now in
    let old = string_bytes c.args.text in
    ap chars c.in_ok-text.ensures
    ∙ chars-append old cs (IsUtf8-had old c.args.text.ok)
    ∙ ap (λ ds. chars old ++ ds) (chars-IsAscii cs (c.is_ascii.ensures.0 c.if-is_ascii.true))
