use Rattle.std.proofs.Common.{arith, ℕ, List, subst, drop, ◌+◌}
use Rattle.std.specs.List.{flat_map}
use Rattle.yl_devices.proofs.Pieces.{on_err}
use Rattle.yl_frames.proofs.Parts.{flat_map-whole}
use Rattle.yl_frames.proofs.pieces.put_parts.Goals as goal

pub returns-in_err-put-clause-err : goal.returns-in_err-put-clause-err
returns-in_err-put-clause-err g c =
    let laws = g.met.P.Pieces in
    on_err c.from_residual.result (subst (λ (l : List ℕ). g.P.Pieces.breaks c.args.to.now l c.put.new.self)
    (flat_map-whole (λ part. part.now) c.args.parts.now c.loop-part.part-index _ (omega arith))
    (laws.broken_before _ _ _ (flat_map (λ part. part.now) (drop (c.loop-part.part-index + 1) c.args.parts.now)) (laws.broken_after _ _ _ _ _ c.loop-part.invariant.put c.in_err-put.ensures.err)))
