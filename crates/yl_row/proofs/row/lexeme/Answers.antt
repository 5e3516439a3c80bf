use Rattle.std.proofs.Common.{ap, subst, ◌∙◌}
use Rattle.yl_lexeme.specs.Surroundings.{surroundings_value}
use Rattle.yl_row.specs.Beginning.{beginning_value, BeginningRests}
use Rattle.yl_row.specs.Run.{lexeme_reading_by}
use Rattle.yl_row.specs.Rows.{reading_with_lexemes}
use Rattle.yl_row.proofs.row.lexeme.Goals as goal

pub returns-in_ok-opened-in-Open-clause-read : goal.returns-in_ok-opened-in-Open-clause-read
returns-in_ok-opened-in-Open-clause-read g c = λ rows more.
    ap (λ f. reading_with_lexemes c.args.lexemes.now.items (lexeme_reading_by c.args.tab c.args.first c.args.at (surroundings_value c.args.surroundings.now) more f)) (c.in_ok-style.ensures.found rows c.args.tab c.args.first ∙ ap (beginning_value c.args.at rows) c.in-Open.is)
    ∙ ap (reading_with_lexemes c.args.lexemes.now.items) (c.in_ok-opened-in-Open.ensures.read rows c.args.tab more c.place_fault-before.ensures)

pub returns-in_ok-ended-in-Ended-clause-read : goal.returns-in_ok-ended-in-Ended-clause-read
returns-in_ok-ended-in-Ended-clause-read g c = λ rows more.
    ap (λ f. reading_with_lexemes c.args.lexemes.now.items (lexeme_reading_by c.args.tab c.args.first c.args.at (surroundings_value c.args.surroundings.now) more f)) (c.in_ok-style.ensures.found rows c.args.tab c.args.first ∙ ap (beginning_value c.args.at rows) c.in-Ended.is)
    ∙ c.in_ok-ended-in-Ended.ensures.read rows c.args.tab more c.place_fault-before.ensures

pub returns-in_ok-opened-in-Open-clause-rests : goal.returns-in_ok-opened-in-Open-clause-rests
returns-in_ok-opened-in-Open-clause-rests g c =
    c.in_ok-opened-in-Open.ensures.rests c.args.text.now (subst (BeginningRests c.args.at c.args.text.now) c.in-Open.is c.in_ok-style.ensures.rests)

pub returns-in_ok-ended-in-Ended-clause-rests : goal.returns-in_ok-ended-in-Ended-clause-rests
returns-in_ok-ended-in-Ended-clause-rests g c = c.in_ok-ended-in-Ended.ensures.rests c.args.text.now
