use Rattle.std.proofs.Common.{ap}
use Rattle.yl_rpc.specs.Answers.{answer_text, json_text}
use Rattle.yl_rpc.specs.Views.{id_view}
use Rattle.yl_lsp.specs.declared.message.InitializeResult.{InitializeResult}
use Rattle.yl_lsp.specs.Messages.{initialize_result}
use Rattle.yl_server.specs.Messages.{Initialized}
use Rattle.yl_server.specs.Steps.{sink}
use Rattle.yl_server.specs.Written.{version}
use Rattle.yl_server.proofs.Replied.{answered_text, sent_one, stopped_one}
use Rattle.yl_server.proofs.reply.welcome.Goals as goal

pub returns-clause-ok : goal.returns-clause-ok
returns-clause-ok g c =
    let text = λ (o : InitializeResult). json_text (initialize_result o.encoding o.version.now) in
    sent_one c.send.result (sink g.W.Write.contents c.args.out.now c.send.new.self) (Initialized (id_view c.args.id) c.args.encoding) (answer_text (id_view c.new.result.id) (text c.new.result.outcome))
    (answered_text (id_view c.new.result.id) (id_view c.args.id) (text c.new.result.outcome) (initialize_result c.args.encoding version) (ap id_view c.new.ensures.made.0) (ap text c.new.ensures.made.1) c.new.ensures.json)
    c.send.ensures.ok c.send.ensures.quiet

pub returns-clause-err : goal.returns-clause-err
returns-clause-err g c =
    let text = λ (o : InitializeResult). json_text (initialize_result o.encoding o.version.now) in
    stopped_one c.send.result (sink g.W.Write.contents c.args.out.now c.send.new.self) (Initialized (id_view c.args.id) c.args.encoding) (answer_text (id_view c.new.result.id) (text c.new.result.outcome))
    (answered_text (id_view c.new.result.id) (id_view c.args.id) (text c.new.result.outcome) (initialize_result c.args.encoding version) (ap id_view c.new.ensures.made.0) (ap text c.new.ensures.made.1) c.new.ensures.json)
    c.send.ensures.fault
