use Rattle.std.proofs.Common.{◌≡◌, ◌+◌, ◌≤◌, ◌++◌, vec_len}
use Rattle.std.specs.Prelude.{not, reverse}
use Rattle.std.specs.List.{filter}
use Rattle.std.specs.Vec.{vec_capacity}
use Rattle.yl_report.specs.Report.{ProblemValue}
use Rattle.yl_problem_lists.specs.Showing.{is_shown_by}
use Rattle.yl_problem_lists.proofs.merging.give_back.Given as goal

abbrev pub invariant-loop-problem : goal.invariant-loop-problem
invariant-loop-problem g l = record {
  shown : l.shown.items ++ filter (is_shown_by l.below) (reverse l.spare.items) ≡ l.fn.shown.items ++ filter (is_shown_by l.below) (reverse l.fn.spare.items);
  suppressed : l.suppressed.items ++ filter (λ (q : ProblemValue). not (is_shown_by l.below q)) (reverse l.spare.items) ≡ l.fn.suppressed.items ++ filter (λ (q : ProblemValue). not (is_shown_by l.below q)) (reverse l.fn.spare.items);
  shown_len : vec_len l.shown + vec_len l.spare ≤ vec_len l.fn.shown + vec_len l.fn.spare;
  suppressed_len : vec_len l.suppressed + vec_len l.spare ≤ vec_len l.fn.suppressed + vec_len l.fn.spare;
  shown_room : vec_capacity l.fn.shown ≤ vec_capacity l.shown;
  suppressed_room : vec_capacity l.fn.suppressed ≤ vec_capacity l.suppressed;
}

abbrev pub decreases-loop-problem : goal.decreases-loop-problem
decreases-loop-problem g l = vec_len l.spare
