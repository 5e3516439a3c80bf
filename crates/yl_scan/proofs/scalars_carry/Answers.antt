use Rattle.yl_scan.proofs.Feed.{carry_on}
use Rattle.yl_scan.proofs.scalars_carry.Goals as goal

pub returns : goal.returns
returns c = λ line begun style at k row rows m m' fresh lt rows_read spaces e. carry_on line begun style at k row rows fresh lt m m' rows_read spaces e
