use Rattle.std.proofs.Common.{◌≤◌}
use Rattle.yl_summary.specs.Overview.{IsBorder}
use Rattle.yl_summary.proofs.overviews.border_behind.Given as goal

abbrev pub invariant-loop-i : goal.invariant-loop-i
invariant-loop-i g l = record {
  border : IsBorder l.kept.items l.overviews l.sections l.i;
  ordered : l.start.sections ≤ l.sections;
}
