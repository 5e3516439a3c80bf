use Rattle.yl_lexeme_rules.proofs.LexemesAlike.{judged_alike}
use Rattle.yl_lexeme_rules.proofs.state.lexemes_are_judged_alike.Goals as goal

pub returns : goal.returns
returns c = judged_alike
