use Rattle.yl_tree.proofs.Names.{inserted}
use Rattle.yl_tree.proofs.name_set.insert_name.Goals as goal

pub returns : goal.returns
returns g c = inserted _ _ c.args.name c.in_ok-insert.ensures.updates.0
