use Rattle.std.proofs.Common.{◌≡◌, ◌+◌, ◌≤◌, vec_len}
use Rattle.std.specs.Vec.{vec_capacity}
use Rattle.yl_problem_lists.specs.Popped.{IsTaken}
use Rattle.yl_problem_lists.proofs.merging.take_behind.Given as goal

abbrev pub invariant-loop-problem : goal.invariant-loop-problem
invariant-loop-problem g l = record {
  taken : IsTaken l.old_end l.new_end l.fn.shown.items l.fn.suppressed.items l.shown.items l.suppressed.items l.spare.items;
  shown_room : vec_capacity l.shown ≡ vec_capacity l.fn.shown;
  suppressed_room : vec_capacity l.suppressed ≡ vec_capacity l.fn.suppressed;
  spare_room : vec_capacity l.fn.spare ≤ vec_capacity l.spare;
}

abbrev pub decreases-loop-problem : goal.decreases-loop-problem
decreases-loop-problem g l = vec_len l.shown + vec_len l.suppressed
