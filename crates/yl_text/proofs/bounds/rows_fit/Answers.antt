use Rattle.yl_text.proofs.Fitting.{lines_are_few, found_short}
use Rattle.yl_text.proofs.bounds.rows_fit.Goals as goal

pub returns-clause-few : goal.returns-clause-few
returns-clause-few g c = lines_are_few _ c.requires

pub returns-clause-short : goal.returns-clause-short
returns-clause-short g c = found_short _ c.requires
