use Rattle.yl_problem_lists.proofs.Following.{parts_follow}
use Rattle.yl_problem_lists.proofs.laws.parts_follow.Goals as goal

pub returns : goal.returns
returns c = parts_follow
