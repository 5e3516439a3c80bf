use Rattle.std.proofs.Common.{◌≡◌, ◌-◌, ◌≤◌, ◌++◌, length, take, drop, vec_capacity}
use Rattle.yl_chunks.specs.Chunks.{items_of}
use Rattle.yl_chunks.proofs.cutting.gather.Given as goal

abbrev pub invariant-loop-j : goal.invariant-loop-j
invariant-loop-j g l = record {
  items : l.items.items ≡ l.initial.items.items ++ items_of (take (l.j - l.p) (drop l.p l.initial.chunks.items));
  before : take l.p l.chunks.items ≡ take l.p l.initial.chunks.items;
  behind : drop l.j l.chunks.items ≡ drop l.j l.initial.chunks.items;
  same : length l.chunks.items ≡ length l.initial.chunks.items;
  room : vec_capacity l.initial.items ≤ vec_capacity l.items;
  chunks_room : vec_capacity l.chunks ≡ vec_capacity l.initial.chunks;
}
