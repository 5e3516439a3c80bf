use Rattle.std.proofs.Common.{◌≡◌, ◌++◌, map, subst, take}
use Rattle.std.specs.Prelude.{OnOk}
use Rattle.yl_marks.specs.Keys.{lexeme_at_line}
use Rattle.yl_lexeme_rules.specs.LexemesLeft.{IsVersion, LexemesRead, lexemes_left}
use Rattle.yl_sections.proofs.row_rules.RowRules.find_before.Goals as goal

pub returns : goal.returns
returns g c = λ v rest n.
    let ys = map (lexeme_at_line c.args.row.now.line) c.args.row.now.lexemes.now in
    subst (λ (r : LexemesRead). IsVersion v r (ys ++ rest) → OnOk c.find_before-found.result (c.find_before-found.new.found.items
    ≡ c.args.problems.now.items ++ lexemes_left v c.args.options.now r (take c.args.count ys) (take c.args.count c.args.keys.now))) c.self.view_is (λ q. c.find_before-found.ensures v rest q) n
