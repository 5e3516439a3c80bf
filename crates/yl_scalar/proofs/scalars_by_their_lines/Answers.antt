use Rattle.yl_scalar.proofs.BlockRead.{block_law}
use Rattle.yl_scalar.proofs.PlainRead.{plain_law}
use Rattle.yl_scalar.proofs.QuotedByRows.{quoted_rows_law}
use Rattle.yl_scalar.proofs.QuotedRead.{quoted_law}
use Rattle.yl_scalar.proofs.scalars_by_their_lines.Goals as goal

pub returns-clause-plain : goal.returns-clause-plain
returns-clause-plain c = plain_law

pub returns-clause-quoted : goal.returns-clause-quoted
returns-clause-quoted c = quoted_law

pub returns-clause-block : goal.returns-clause-block
returns-clause-block c = block_law

pub returns-clause-quoted_rows : goal.returns-clause-quoted_rows
returns-clause-quoted_rows c = quoted_rows_law
