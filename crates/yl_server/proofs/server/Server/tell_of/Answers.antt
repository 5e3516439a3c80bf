use Rattle.yl_server.specs.Machine.{told_of}
use Rattle.yl_server.specs.Steps.{sink}
use Rattle.yl_server.proofs.Replied.{sent_one, stopped_one, told_none}
use Rattle.yl_server.proofs.server.Server.tell_of.Goals as goal

pub returns-in-None-clause-err : goal.returns-in-None-clause-err
returns-in-None-clause-err g c =
    stopped_one c.send.result (sink g.W.Write.contents c.args.out.now c.send.new.self) (told_of c.args.uri.now c.args.self.now) _ (told_none c.args.uri.now c.args.self.now c.in-None.ensures) c.send.ensures.fault

pub returns-in-None-clause-ok : goal.returns-in-None-clause-ok
returns-in-None-clause-ok g c =
    sent_one c.send.result (sink g.W.Write.contents c.args.out.now c.send.new.self) (told_of c.args.uri.now c.args.self.now) _ (told_none c.args.uri.now c.args.self.now c.in-None.ensures) c.send.ensures.ok c.send.ensures.quiet
