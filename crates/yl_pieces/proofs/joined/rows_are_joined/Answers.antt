use Rattle.yl_pieces.proofs.JoinedFaults.{all_ended}
use Rattle.yl_pieces.proofs.JoinedTold.{all_joined}
use Rattle.yl_pieces.proofs.joined.rows_are_joined.Goals as goal

pub returns-clause-joined : goal.returns-clause-joined
returns-clause-joined c = all_joined

pub returns-clause-ended : goal.returns-clause-ended
returns-clause-ended c = all_ended
