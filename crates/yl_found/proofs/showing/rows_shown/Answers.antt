use Rattle.std.proofs.Common.{arith, ◌∙◌}
use Rattle.yl_found.proofs.Said.{rows_all, rows_first}
use Rattle.yl_found.proofs.showing.rows_shown.Goals as goal

pub returns-then-overview-len : goal.returns-then-overview-len
returns-then-overview-len g c =
    rows_first c.args.sections.now c.args.overview.sound c.args.overview.row _ c.get.result.now c.requires c.get.ensures (omega (arith, c.rows.ensures, c.from-above.ensures, c.from.ensures))

pub returns-else-overview-len : goal.returns-else-overview-len
returns-else-overview-len g c = c.from-above.ensures ∙ rows_all c.args.sections.now c.args.overview.sound c.args.overview.row c.requires (omega (arith, c.if-overview-len.false, c.len.ensures))
