use Rattle.std.proofs.Common.{◌≡◌, ℕ, ◌<◌, ◌≤◌, length, take, slice_index, vec_capacity}
use Rattle.yl_chunks.specs.Chunks.{items_of}
use Rattle.yl_chunks.proofs.counting.count_starts.Given as goal

-- the chunks so far are counted
abbrev pub invariant-loop-chunk : goal.invariant-loop-chunk
invariant-loop-chunk g l = record {
  counted : length l.starts.places.items ≡ l.chunk-index;
  start : l.start ≡ length (items_of (take l.chunk-index l.chunks));
  each : (k : ℕ) → k < l.chunk-index → slice_index l.starts.places.items k ≡ length (items_of (take k l.chunks));
  room : length l.chunks ≤ vec_capacity l.starts.places;
}
