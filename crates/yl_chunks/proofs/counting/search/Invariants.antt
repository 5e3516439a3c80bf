use Rattle.std.proofs.Common.{◌-◌, ◌<◌, ◌≤◌, length, take}
use Rattle.yl_chunks.specs.Chunks.{items_of}
use Rattle.yl_chunks.proofs.counting.search.Given as goal

abbrev pub invariant-loop-high : goal.invariant-loop-high
invariant-loop-high g l = record {
  ordered : l.low < l.high;
  within : l.high ≤ length l.chunks;
  least : length (items_of (take l.low l.chunks)) ≤ l.i;
  most : l.high < length l.chunks → l.i < length (items_of (take l.high l.chunks));
}

abbrev pub decreases-loop-high : goal.decreases-loop-high
decreases-loop-high g l = l.high - l.low
