use Rattle.std.proofs.Common.{◌≡◌, ◌≤◌, ◌∙◌, ap, arith}
use Rattle.std.proofs.lemmas.Bool.Decides.{nat_tests}
use Rattle.yl_rules.specs.TrailingSpaces.{end_white}
use Rattle.yl_rules.proofs.Texts.{nothing_there}
use Rattle.yl_rules.proofs.rows.is_suspect.Goals as goal

pub returns-else-text-options : goal.returns-else-text-options
returns-else-text-options c none line =
    let white : c.end_white.result ≡ end_white c.args.text.now = c.end_white.ensures ∙ ap end_white c.as_bytes.ensures.value in
    let clean : c.end_white.result ≤ 0 = grind (arith, nat_tests, none) in
    nothing_there c.args.options.now c.args.text.now line c.utf8.text c.if-text-options.false (omega (arith, white, clean))
