use Rattle.std.proofs.Common.{take}
use Rattle.std.specs.List.{flat_map}
use Rattle.yl_frames.proofs.pieces.put_parts.Given as goal

abbrev pub invariant-loop-part : goal.invariant-loop-part
invariant-loop-part g l = record {
  can : g.P.Pieces.can_put l.to;
  put : g.P.Pieces.puts l.initial.to (flat_map (λ part. part.now) (take l.part-index l.parts)) l.to;
}
