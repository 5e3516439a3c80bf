use Rattle.yl_lexeme.proofs.Opened.{columns_are_open, columns_fall}
use Rattle.yl_lexeme.proofs.columns.columns_are_open.Goals as goal

pub returns-clause-open : goal.returns-clause-open
returns-clause-open c = columns_are_open

pub returns-clause-falling : goal.returns-clause-falling
returns-clause-falling c = columns_fall
