use Rattle.std.proofs.Common.{◌≡◌, ◌++◌, map}
use Rattle.yl_lint.specs.TextReport.{moved}
use Rattle.yl_lint.proofs.moving.push_moved.Given as goal

abbrev pub invariant-loop-one : goal.invariant-loop-one
invariant-loop-one g l = l.found.items ++ map (moved l.down) l.one-iterator.rest.items ≡ l.fn.found.items ++ map (moved l.down) l.fn.from.items
