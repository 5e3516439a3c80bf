use Rattle.std.proofs.Common.{ap, ◌∙◌, Some}
use Rattle.yl_marks.specs.Keys.{lexeme_at_line, token_of}
use Rattle.yl_indentation.proofs.Places.{seen_at}
use Rattle.yl_indentation.proofs.element.token_at.Goals as goal

pub returns-in-Some : goal.returns-in-Some
returns-in-Some g c =
    let found = c.in-Some.ensures.lookup in
    ap Some c.token_of.ensures ∙ seen_at (λ x. lexeme_at_line x.line x.lexeme.now) token_of c.args.lexemes.now c.args.i c.in-Some.at.now found.3.0 found.1
