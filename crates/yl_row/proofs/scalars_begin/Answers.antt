use Rattle.yl_row.proofs.Beginnings.{plain_begins, quoted_begins, block_begins}
use Rattle.yl_row.proofs.scalars_begin.Goals as goal

pub returns-clause-plain : goal.returns-clause-plain
returns-clause-plain c = plain_begins

pub returns-clause-quoted : goal.returns-clause-quoted
returns-clause-quoted c = quoted_begins

pub returns-clause-block : goal.returns-clause-block
returns-clause-block c = block_begins
