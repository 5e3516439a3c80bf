use Rattle.yl_tree.proofs.Kept.{suffices}
use Rattle.yl_tree.proofs.laws.references_suffice.Goals as goal

pub returns : goal.returns
returns c = suffices
