use Rattle.std.proofs.Common.{◌≡◌, ◌++◌, [], subst}
use Rattle.std.specs.Prelude.{OnOk}
use Rattle.yl_lexeme_rules.specs.LexemesLeft.{LexemesRead, lexemes_left}
use Rattle.yl_sections.proofs.row_rules.RowRules.finish.Goals as goal

pub returns : goal.returns
returns g c = λ v ks.
    subst (λ (r : LexemesRead). OnOk c.finish.result (c.finish.new.problems.items ≡ c.args.problems.now.items ++ lexemes_left v c.args.options.now r [] ks)) c.self.view_is (c.finish.ensures v ks)
