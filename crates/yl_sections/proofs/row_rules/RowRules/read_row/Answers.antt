use Rattle.std.proofs.Common.{◌∙◌, ◌&&◌, ap, sym}
use Rattle.yl_lexeme_rules.specs.LexemesLeft.{LexemesRead}
use Rattle.yl_sections.specs.Directives.{are_directives}
use Rattle.yl_sections.proofs.RowDirectives.{directives_after}
use Rattle.yl_sections.proofs.row_rules.RowRules.read_row.Goals as goal

pub invariant_of-self : goal.invariant_of-self
invariant_of-self g c =
    c.still_directives-in_directives.ensures
    ∙ (ap (λ b. b && are_directives c.args.row.now.lexemes.now) c.self.invariant
    ∙ (sym (directives_after c.args.row.now.line c.self.inside.rules c.args.row.now.lexemes.now) ∙ sym (ap (λ (r : LexemesRead). r.in_directives) c.in-Ok.ensures.read)))
