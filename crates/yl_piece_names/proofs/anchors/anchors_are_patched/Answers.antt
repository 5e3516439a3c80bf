use Rattle.yl_piece_names.proofs.AnchorsPatched.{anchors_patched}
use Rattle.yl_piece_names.proofs.anchors.anchors_are_patched.Goals as goal

pub returns : goal.returns
returns c = anchors_patched
