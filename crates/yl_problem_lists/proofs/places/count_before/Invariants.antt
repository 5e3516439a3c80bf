use Rattle.std.proofs.Common.{◌≡◌, ◌+◌, drop}
use Rattle.std.specs.List.{prefix_len}
use Rattle.yl_report.specs.Report.{ProblemValue}
use Rattle.yl_problem_lists.specs.Order.{comes_before}
use Rattle.yl_problem_lists.proofs.places.count_before.Given as goal

abbrev pub invariant-loop-i : goal.invariant-loop-i
invariant-loop-i g l = l.i + prefix_len (λ (q : ProblemValue). comes_before q l.problem) (drop l.i l.problems) ≡ prefix_len (λ (q : ProblemValue). comes_before q l.problem) l.problems
