use Rattle.std.proofs.Common.{◌≡◌, ◌++◌, drop, map, length}
use Rattle.yl_lint.proofs.kept.lent.Given as goal

abbrev pub invariant-loop-item : goal.invariant-loop-item
invariant-loop-item g l = record {
  lent : map (λ x. x.now) l.all.items ++ drop l.item-index l.items ≡ l.items;
  len : length l.all.items ≡ l.item-index;
}
