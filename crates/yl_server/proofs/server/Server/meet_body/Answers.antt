use Rattle.yl_server.proofs.Handled.{body_missed}
use Rattle.yl_server.proofs.server.Server.meet_body.Goals as goal

pub returns-in-Err : goal.returns-in-Err
returns-in-Err g c = body_missed c.args.body.now _ c.in-Err.fault c.args.self.now c.miss_body.new.self c.miss_body.result c.in-Err.ensures.fault c.miss_body.ensures
