use Rattle.yl_devices.proofs.Pieces.{on_err}
use Rattle.yl_frames.proofs.Outcomes.{fault_then, ok_then}
use Rattle.yl_rpc.proofs.parts.JoinedBody.put.Goals as goal

pub returns-in_err-put-clause-err : goal.returns-in_err-put-clause-err
returns-in_err-put-clause-err g c = on_err c.from_residual.result (g.met.P.Pieces.broken_before _ _ _ (g.B.Body.text c.args.self.now.1) c.in_err-put.ensures.err)

pub returns-clause-ok : goal.returns-clause-ok
returns-clause-ok g c = ok_then c.put-2.result c.put-2.ensures.ok (g.met.P.Pieces.joined _ _ _ _ _ c.in_ok-put.ensures.ok)

pub returns-clause-err : goal.returns-clause-err
returns-clause-err g c = fault_then c.put-2.result c.put-2.ensures.err (g.met.P.Pieces.broken_after _ _ _ _ _ c.in_ok-put.ensures.ok)
