use Rattle.std.proofs.Common.{◌≡◌, ◌-◌, ◌≤◌, ◌++◌, length, take, drop}
use Rattle.yl_rpc.specs.Surrogates.{mended, mended_from}
use Rattle.yl_rpc.proofs.surrogates.mend.Given as goal

abbrev pub invariant-loop-i : goal.invariant-loop-i
invariant-loop-i l = record {
  within : l.i ≤ length l.body;
  size : length l.body ≡ length l.initial.body;
  so_far : take l.i l.body ++ mended_from l.within (drop l.i l.body) ≡ mended l.initial.body;
}

abbrev pub decreases-loop-i : goal.decreases-loop-i
decreases-loop-i l = length l.initial.body - l.i
