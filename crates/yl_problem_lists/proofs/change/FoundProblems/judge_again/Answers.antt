use Rattle.std.proofs.Common.{List, sym, subst}
use Rattle.std.specs.List.{AllByRecursion}
use Rattle.yl_text.proofs.Every.{all_filter}
use Rattle.yl_report.specs.Report.{ProblemValue}
use Rattle.yl_problem_lists.specs.Order.{IsInOrder}
use Rattle.yl_problem_lists.specs.Parts.{IsLow, stays_judged}
use Rattle.yl_problem_lists.proofs.Ordered.{order_filter}
use Rattle.yl_problem_lists.proofs.change.FoundProblems.judge_again.Goals as goal

pub merge_indentation-requires-clause-order : goal.merge_indentation-requires-clause-order
merge_indentation-requires-clause-order g c =
    subst (λ (qs : List ProblemValue). IsInOrder qs) (sym c.drop_indentation-2.ensures.items) (order_filter (stays_judged c.args.line) c.args.self.now.suppressed.items c.requires.ordered.suppressed_in_order)

pub merge_indentation-requires-clause-low : goal.merge_indentation-requires-clause-low
merge_indentation-requires-clause-low g c =
    subst (λ (qs : List ProblemValue). AllByRecursion IsLow qs) (sym c.drop_indentation-2.ensures.items) (all_filter IsLow (stays_judged c.args.line) c.args.self.now.suppressed.items c.requires.ordered.suppressed_low)
