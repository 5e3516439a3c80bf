use Rattle.yl_text.proofs.Fitting.{lines_are_few, lines_are_short}
use Rattle.yl_text.proofs.bounds.lines_are_few_and_short.Goals as goal

pub returns-clause-few : goal.returns-clause-few
returns-clause-few c = lines_are_few

pub returns-clause-short : goal.returns-clause-short
returns-clause-short c = lines_are_short
