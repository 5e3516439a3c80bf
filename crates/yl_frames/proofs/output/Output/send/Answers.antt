use Rattle.std.proofs.Common.{◌≡◌, length, arith}
use Rattle.yl_frames.proofs.output.Output.send.Goals as goal

pub returns-in-Ok-clause-ok : goal.returns-in-Ok-clause-ok
returns-in-Ok-clause-ok g c =
    let is : length (g.B.Body.text c.args.body.now) ≡ c.count_of-count.result = omega arith in rw is c.in-Ok.ensures.ok

pub returns-in-Err-clause-fault : goal.returns-in-Err-clause-fault
returns-in-Err-clause-fault g c =
    let is : length (g.B.Body.text c.args.body.now) ≡ c.count_of-count.result = omega arith in (rw is c.in-Err.ensures.err, c.in-Err.ensures.failed)
