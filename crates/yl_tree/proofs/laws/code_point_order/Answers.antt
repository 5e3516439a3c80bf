use Rattle.yl_tree.proofs.CodePoints.{order}
use Rattle.yl_tree.proofs.laws.code_point_order.Goals as goal

pub returns : goal.returns
returns c = order
