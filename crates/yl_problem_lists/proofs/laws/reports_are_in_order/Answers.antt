use Rattle.yl_problem_lists.proofs.Faults.{report_in_order}
use Rattle.yl_problem_lists.proofs.laws.reports_are_in_order.Goals as goal

pub returns : goal.returns
returns c = report_in_order
