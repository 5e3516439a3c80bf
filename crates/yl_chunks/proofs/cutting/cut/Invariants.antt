use Rattle.std.proofs.Common.{◌≡◌, ◌≤◌, ◌*◌, ◌++◌, All, length, take, drop}
use Rattle.yl_chunks.specs.Chunks.{items_of, IsFilled}
use Rattle.yl_chunks.proofs.cutting.cut.Given as goal

-- the items that are left and those of the chunks that are cut are the items
abbrev pub invariant-loop-left : goal.invariant-loop-left
invariant-loop-left g l = record {
  same : length l.chunks.items ≡ length l.initial.chunks.items;
  within : l.left ≤ length l.chunks.items;
  enough : l.left ≤ length l.items.items;
  few : length l.items.items ≤ 256 * l.left;
  joined : l.items.items ++ items_of (drop l.left l.chunks.items) ≡ l.initial.items.items;
  filled : All IsFilled (drop l.left l.chunks.items);
  empty : take l.left l.chunks.items ≡ take l.left l.initial.chunks.items;
}

abbrev pub decreases-loop-left : goal.decreases-loop-left
decreases-loop-left g l = l.left
