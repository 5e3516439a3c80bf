use Rattle.yl_tree.proofs.Names.{removed}
use Rattle.yl_tree.proofs.name_set.remove_name.Goals as goal

pub returns : goal.returns
returns g c = removed _ _ c.args.name c.swap_remove.ensures.updates.0
