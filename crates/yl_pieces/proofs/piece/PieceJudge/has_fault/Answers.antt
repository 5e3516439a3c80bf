use Rattle.std.proofs.Common.{◌∙◌}
use Rattle.yl_pieces.proofs.PieceMore.{fault_held}
use Rattle.yl_pieces.proofs.piece.PieceJudge.has_fault.Goals as goal

pub returns : goal.returns
returns g c = λ config s rs h. c.is_some.ensures ∙ fault_held config s rs c.args.self.now h
