use Rattle.yl_server.specs.Machine.{missed_for_memory}
use Rattle.yl_server.specs.Steps.{sink}
use Rattle.yl_server.proofs.Handled.{reply_cut, reply_done}
use Rattle.yl_server.proofs.server.Server.drop_body.Goals as goal

pub returns-clause-ok : goal.returns-clause-ok
returns-clause-ok g c =
    reply_done c.send.result c.miss-reply.new.self c.miss-reply.result (missed_for_memory c.args.self.now) (sink g.W.Write.contents c.args.out.now c.send.new.out) c.miss-reply.ensures c.send.ensures.ok

pub returns-clause-err : goal.returns-clause-err
returns-clause-err g c =
    reply_cut c.send.result c.miss-reply.new.self c.miss-reply.result (missed_for_memory c.args.self.now) (sink g.W.Write.contents c.args.out.now c.send.new.out) c.miss-reply.ensures c.send.ensures.err
