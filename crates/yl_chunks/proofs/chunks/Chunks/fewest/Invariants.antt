use Rattle.std.proofs.Common.{◌≤◌}
use Rattle.yl_chunks.proofs.chunks.Chunks.fewest.Given as goal

abbrev pub invariant-loop-chunk : goal.invariant-loop-chunk
invariant-loop-chunk g l = l.fewest ≤ 256
