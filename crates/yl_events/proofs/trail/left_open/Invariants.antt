use Rattle.std.proofs.Common.{◌≡◌, ◌≤◌, length, reverse, take, drop}
use Rattle.yl_events.specs.Faults.{without_closed}
use Rattle.yl_events.proofs.trail.left_open.Given as goal

abbrev pub invariant-loop-symbol : goal.invariant-loop-symbol
invariant-loop-symbol l = record {
  same : without_closed (drop l.symbol-index l.behind) (reverse (take l.open l.blocks)) ≡ without_closed l.behind (reverse l.blocks);
  within : l.open ≤ length l.blocks;
}
