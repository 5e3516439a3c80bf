use Rattle.std.proofs.Common.{rules}
use Rattle.std.specs.Option.{option_map}
use Rattle.json.specs.Value.{value_view}
use Rattle.yl_rpc.specs.Views.{id_view}
use Rattle.yl_server.specs.Replies.{messages_of}
use Rattle.yl_server.specs.Requests.{request_of}
use Rattle.yl_server.proofs.Decided.{answered_before, answered_stopped, answered_when_running}
use Rattle.yl_server.proofs.server.Server.answer.Goals as goal

pub returns-else-eq : goal.returns-else-eq
returns-else-eq g c = answered_before (id_view c.args.id) c.args.method.now _ c.args.self.now (search rules) (search rules)

pub returns-in-Running : goal.returns-in-Running
returns-in-Running g c =
    answered_when_running (id_view c.args.id) (request_of c.args.method.now (option_map (λ v. value_view v.now) c.args.params)) c.args.self.now c.answer_running.new.self
    (messages_of c.answer_running.new.self c.answer_running.result) (search rules) (c.answer_running.ensures (option_map (λ v. value_view v.now) c.args.params))

pub returns-in-Stopped : goal.returns-in-Stopped
returns-in-Stopped g c = answered_stopped (id_view c.args.id) (request_of c.args.method.now (option_map (λ v. value_view v.now) c.args.params)) c.args.self.now (search rules)
