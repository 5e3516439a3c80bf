use Rattle.yl_units.proofs.Counting.{column_last, column_within}
use Rattle.yl_units.proofs.laws.columns_are_last.Goals as goal

pub returns-clause-last : goal.returns-clause-last
returns-clause-last c = column_last

pub returns-clause-within : goal.returns-clause-within
returns-clause-within c = column_within
