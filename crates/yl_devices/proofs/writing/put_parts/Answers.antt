use Rattle.std.proofs.Common.{arith, rules}
use Rattle.yl_devices.proofs.Pieces.{parts_break, parts_go_on, on_err}
use Rattle.yl_devices.proofs.writing.put_parts.Goals as goal

pub returns-in_err-put-clause-err : goal.returns-in_err-put-clause-err
returns-in_err-put-clause-err g c =
    on_err c.from_residual.result
    (parts_break (λ part. part.now) c.args.parts.now c.loop-part.part-index _ (omega arith) _ _ _ _ _ c.loop-part.invariant.passed c.in_err-put.ensures.err)

pub loop-part-preserved : goal.loop-part-preserved
loop-part-preserved g c = record {
  quiet = search rules;
  passed = parts_go_on (λ part. part.now) c.args.parts.now c.loop-part.part-index _ (omega arith) _ _ _ _ _ _ c.loop-part.invariant.passed c.in_ok-put.ensures.ok;
}
