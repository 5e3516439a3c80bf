use Rattle.yl_problem_lists.proofs.Following.{fault_goes}
use Rattle.yl_problem_lists.proofs.laws.faults_go.Goals as goal

pub returns : goal.returns
returns c = fault_goes
