use Rattle.yl_piece_names.proofs.TreePatched.{tree_patched}
use Rattle.yl_piece_names.proofs.tree.tree_findings_are_patched.Goals as goal

pub returns : goal.returns
returns c = tree_patched
