use Rattle.std.proofs.Common.{inl, refl}
use Rattle.yl_pieces.proofs.PieceEnds.{begins}
use Rattle.yl_pieces.proofs.piece.PieceJudge.resume.Goals as goal

pub returns : goal.returns
returns g c = inl (record {
  none = refl;
  line = refl;
  rows = begins c.args.config.now _ c.in_ok-rows.rows c.in_ok-rows.ensures;
  comments = record { last = c.new.ensures.last; all = c.new.ensures.none };
})
