use Rattle.yl_chunks.specs.Chunks.{ArePlaces}
use Rattle.yl_chunks.proofs.turning.turn_on.Given as goal

abbrev pub invariant-loop-k : goal.invariant-loop-k
invariant-loop-k g l = ArePlaces l.chunks l.places l.k l.len
