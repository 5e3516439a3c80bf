use Rattle.std.proofs.Common.{◌≡◌, ◌++◌, drop}
use Rattle.yl_summary.proofs.edit.push_copies.Given as goal

abbrev pub invariant-loop-one : goal.invariant-loop-one
invariant-loop-one g l = l.overviews.items ++ drop l.one-index l.some ≡ l.initial.overviews.items ++ l.some
