use Rattle.std.proofs.Common.{◌≡◌}
use Rattle.std.specs.Prelude.{not}
use Rattle.std.specs.List.{filter}
use Rattle.yl_problem_lists.specs.Showing.{is_shown_by}
use Rattle.yl_problem_lists.proofs.change.FoundProblems.part.Given as goal

abbrev pub invariant-loop-problem : goal.invariant-loop-problem
invariant-loop-problem g l = record {
  shown : l.shown.items ≡ filter (is_shown_by l.showing) l.yielded;
  suppressed : l.suppressed.items ≡ filter (λ p. not (is_shown_by l.showing p)) l.yielded;
}
