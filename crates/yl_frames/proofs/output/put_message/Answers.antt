use Rattle.std.proofs.Common.{codes, decimal}
use Rattle.yl_devices.proofs.Pieces.{on_err}
use Rattle.yl_frames.proofs.Outcomes.{fault_then, ok_then}
use Rattle.yl_frames.proofs.output.put_message.Goals as goal

pub returns-in_err-put-clause-err : goal.returns-in_err-put-clause-err
returns-in_err-put-clause-err g c =
    let longer = g.met.P.Pieces.broken_before in
    on_err c.from_residual.result (longer _ _ _ (g.B.Body.text c.args.body.now) (longer _ _ _ (codes "\r\n\r\n") (longer _ _ _ (decimal c.args.count) c.in_err-put.ensures.err)))

pub returns-in_err-put_number-clause-err : goal.returns-in_err-put_number-clause-err
returns-in_err-put_number-clause-err g c =
    let longer = g.met.P.Pieces.broken_before in
    on_err c.from_residual-in_err-put_number.result (longer _ _ _ (g.B.Body.text c.args.body.now) (longer _ _ _ (codes "\r\n\r\n") (g.met.P.Pieces.broken_after _ _ _ _ _ c.in_ok-put.ensures.ok c.in_err-put_number.ensures.err)))

pub returns-in_err-put-2-clause-err : goal.returns-in_err-put-2-clause-err
returns-in_err-put-2-clause-err g c =
    let laws = g.met.P.Pieces in
    on_err c.from_residual-in_err-put-2.result (laws.broken_before _ _ _ (g.B.Body.text c.args.body.now) (laws.broken_after _ _ _ _ _ (laws.joined _ _ _ _ _ c.in_ok-put.ensures.ok c.in_ok-put_number.ensures.ok) c.in_err-put-2.ensures.err))

pub returns-clause-ok : goal.returns-clause-ok
returns-clause-ok g c =
    let laws = g.met.P.Pieces in
    ok_then c.put-3.result c.put-3.ensures.ok (laws.joined _ _ _ _ _ (laws.joined _ _ _ _ _ (laws.joined _ _ _ _ _ c.in_ok-put.ensures.ok c.in_ok-put_number.ensures.ok) c.in_ok-put-2.ensures.ok))

pub returns-clause-err : goal.returns-clause-err
returns-clause-err g c =
    let laws = g.met.P.Pieces in
    fault_then c.put-3.result c.put-3.ensures.err (laws.broken_after _ _ _ _ _ (laws.joined _ _ _ _ _ (laws.joined _ _ _ _ _ c.in_ok-put.ensures.ok c.in_ok-put_number.ensures.ok) c.in_ok-put-2.ensures.ok))
