use Rattle.std.proofs.Common.{◌≡◌, ◌+◌, ◌≤◌, ◌++◌, vec_len}
use Rattle.std.specs.Prelude.{reverse}
use Rattle.std.specs.Vec.{vec_capacity}
use Rattle.yl_problem_lists.proofs.judging.push_back.Given as goal

abbrev pub invariant-loop-problem : goal.invariant-loop-problem
invariant-loop-problem g l = record {
  items : l.problems.items ++ reverse l.spare.items ≡ l.fn.problems.items ++ reverse l.fn.spare.items;
  len : vec_len l.problems + vec_len l.spare ≡ vec_len l.fn.problems + vec_len l.fn.spare;
  room : vec_capacity l.fn.problems ≤ vec_capacity l.problems;
  spare_room : vec_capacity l.spare ≡ vec_capacity l.fn.spare;
}

abbrev pub decreases-loop-problem : goal.decreases-loop-problem
decreases-loop-problem g l = vec_len l.spare
