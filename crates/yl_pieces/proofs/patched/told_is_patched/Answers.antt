use Rattle.yl_pieces.proofs.ToldPatched as patched
use Rattle.yl_pieces.proofs.patched.told_is_patched.Goals as goal

pub returns : goal.returns
returns c = patched.told_is_patched
