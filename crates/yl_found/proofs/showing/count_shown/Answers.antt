use Rattle.std.proofs.Common.{arith}
use Rattle.yl_found.proofs.Said.{shown_all, shown_there}
use Rattle.yl_found.proofs.showing.count_shown.Goals as goal

pub returns-then-overview-len-clause-shown : goal.returns-then-overview-len-clause-shown
returns-then-overview-len-clause-shown g c = shown_there c.args.sections.now c.args.overview.sound c.args.overview.row c.requires (omega (arith, c.if-overview-len.true, c.len.ensures))

pub returns-else-overview-len-clause-shown : goal.returns-else-overview-len-clause-shown
returns-else-overview-len-clause-shown g c = shown_all c.args.sections.now c.args.overview.sound c.args.overview.row c.requires (omega (arith, c.if-overview-len.false, c.len.ensures))
