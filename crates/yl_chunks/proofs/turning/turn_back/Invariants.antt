use Rattle.std.proofs.Common.{◌≤◌}
use Rattle.yl_chunks.specs.Chunks.{ArePlaces}
use Rattle.yl_chunks.proofs.turning.turn_back.Given as goal

abbrev pub invariant-loop-k : goal.invariant-loop-k
invariant-loop-k g l = record {
  ordered : l.to ≤ l.k;
  places : ArePlaces l.chunks l.places l.k l.len;
}

abbrev pub decreases-loop-k : goal.decreases-loop-k
decreases-loop-k g l = l.k
