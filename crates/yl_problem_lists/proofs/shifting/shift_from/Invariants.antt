use Rattle.std.proofs.Common.{◌≡◌, ◌-◌, ◌++◌, map, take, drop}
use Rattle.std.specs.Vec.{vec_capacity}
use Rattle.yl_problem_lists.specs.Parts.{shifted}
use Rattle.yl_problem_lists.proofs.shifting.shift_from.Given as goal

abbrev pub invariant-loop-i : goal.invariant-loop-i
invariant-loop-i g l = record {
  passed : l.problems.items ≡ take l.from l.fn.problems.items ++ (map (shifted l.up l.down) (take (l.i - l.from) (drop l.from l.fn.problems.items)) ++ drop l.i l.fn.problems.items);
  room : vec_capacity l.problems ≡ vec_capacity l.fn.problems;
}
