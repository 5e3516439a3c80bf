use Rattle.std.proofs.Common.{◌≡◌, ◌≤◌, All, vec_len, vec_capacity}
use Rattle.yl_chunks.specs.Chunks.{HasRoom}
use Rattle.yl_chunks.proofs.room.empty_chunks.Given as goal

abbrev pub invariant-loop : goal.invariant-loop
invariant-loop g l = (vec_len l.chunks ≡ l.counter) × (l.count ≤ vec_capacity l.chunks) × All (HasRoom l.capacity) l.chunks.items
