use Rattle.std.proofs.Common.{◌≡◌, ◌++◌, map, drop}
use Rattle.yl_lint.specs.TextReport.{moved}
use Rattle.yl_lint.proofs.moving.push_copies.Given as goal

abbrev pub invariant-loop-one : goal.invariant-loop-one
invariant-loop-one g l = l.found.items ++ map (moved l.down) (drop l.one-index l.from) ≡ l.fn.found.items ++ map (moved l.down) l.from
