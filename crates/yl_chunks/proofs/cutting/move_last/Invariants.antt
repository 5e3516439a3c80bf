use Rattle.std.proofs.Common.{◌≡◌, ◌≤◌, ◌++◌, length, reverse, vec_capacity}
use Rattle.yl_chunks.proofs.cutting.move_last.Given as goal

abbrev pub invariant-loop : goal.invariant-loop
invariant-loop g l = record {
  joined : l.items.items ++ reverse l.to.items ≡ l.initial.items.items;
  moved : length l.to.items ≡ l.counter;
  room : l.count ≤ vec_capacity l.to;
}
