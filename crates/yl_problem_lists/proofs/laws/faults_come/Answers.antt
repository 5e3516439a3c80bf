use Rattle.yl_problem_lists.proofs.Faults.{fault_comes}
use Rattle.yl_problem_lists.proofs.laws.faults_come.Goals as goal

pub returns : goal.returns
returns c = fault_comes
