use Rattle.std.proofs.Common.{◌≡◌, ◌++◌, take, drop, map}
use Rattle.yl_lint.specs.TextReport.{shown}
use Rattle.yl_lint.proofs.assembling.count_shown.Given as goal

abbrev pub invariant-loop-i : goal.invariant-loop-i
invariant-loop-i g l = map (λ k. k.now) (take l.i l.kept) ++ shown (map (λ k. k.now) (drop l.i l.kept)) ≡ shown (map (λ k. k.now) l.kept)
