use Rattle.std.proofs.Common.{◌≡◌, ◌∙◌, ap, arith, refl}
use Rattle.yl_rules.specs.TrailingSpaces.{end_white}
use Rattle.yl_rules.proofs.Texts.{no_trailing, some_trailing, white_within}
use Rattle.yl_rules.proofs.trailing_spaces.trailing_spaces_problem.Goals as goal

pub returns-then-white-eq0 : goal.returns-then-white-eq0
returns-then-white-eq0 g c =
    no_trailing c.args.text.now c.args.line c.end_white-white.result c.utf8.text (c.end_white-white.ensures ∙ ap end_white c.as_bytes.ensures.value) (omega arith)

pub overflow_sub-column : goal.overflow_sub-column
overflow_sub-column g c =
    let white : c.end_white-white.result ≡ end_white c.args.text.now = c.end_white-white.ensures ∙ ap end_white c.as_bytes.ensures.value in
    let within = white_within c.args.text.now c.utf8.text in
    omega (arith, white, within, c.character_count.ensures.exact)

pub returns : goal.returns
returns g c =
    let white : c.end_white-white.result ≡ end_white c.args.text.now = c.end_white-white.ensures ∙ ap end_white c.as_bytes.ensures.value in
    some_trailing c.args.text.now _ c.args.line c.end_white-white.result c.character_count.result c.fixed.result c.utf8.text white c.if-white-eq0.false c.character_count.ensures.exact refl c.fixed.ensures
