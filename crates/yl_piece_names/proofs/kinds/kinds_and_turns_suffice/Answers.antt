use Rattle.yl_piece_names.proofs.KindsAndTurns as kinds
use Rattle.yl_piece_names.proofs.kinds.kinds_and_turns_suffice.Goals as goal

pub returns : goal.returns
returns c = kinds.kinds_and_turns_suffice
