use Rattle.yl_problem_lists.proofs.InOrder.{fault_in_order, parts_in_order}
use Rattle.yl_problem_lists.proofs.laws.parts_stay_in_order.Goals as goal

pub returns : goal.returns
returns c = record { parts = parts_in_order; fault = fault_in_order }
