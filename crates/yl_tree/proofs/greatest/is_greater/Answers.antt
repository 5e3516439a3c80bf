use Rattle.std.proofs.Common.{ap, ◌∙◌}
use Rattle.std.specs.Ordering.{is_gt}
use Rattle.yl_tree.proofs.CodePoints.{order}
use Rattle.yl_tree.proofs.greatest.is_greater.Goals as goal

pub returns : goal.returns
returns c = c.gt.ensures ∙ ap is_gt (order c.args.a.now c.args.b.now c.utf8.a c.utf8.b)
