use Rattle.std.proofs.Common.{◌∙◌, ap}
use Rattle.json.specs.Json.{null}
use Rattle.yl_rpc.specs.Answers.{answer_text}
use Rattle.yl_rpc.specs.Views.{id_view}
use Rattle.yl_rpc.specs.declared.parts.Plain.{Plain}
use Rattle.yl_server.specs.Messages.{Done}
use Rattle.yl_server.specs.Steps.{sink}
use Rattle.yl_server.proofs.Replied.{answered_text, null_written, sent_one, stopped_one}
use Rattle.yl_server.proofs.reply.finish.Goals as goal

pub returns-clause-ok : goal.returns-clause-ok
returns-clause-ok g c =
    let text = λ (o : Plain). o.0.now in
    sent_one c.send.result (sink g.W.Write.contents c.args.out.now c.send.new.self) (Done (id_view c.args.id)) (answer_text (id_view c.new.result.id) (text c.new.result.outcome))
    (answered_text (id_view c.new.result.id) (id_view c.args.id) (text c.new.result.outcome) null (ap id_view c.new.ensures.made.0) (ap text c.new.ensures.made.1 ∙ null_written) c.new.ensures.json)
    c.send.ensures.ok c.send.ensures.quiet

pub returns-clause-err : goal.returns-clause-err
returns-clause-err g c =
    let text = λ (o : Plain). o.0.now in
    stopped_one c.send.result (sink g.W.Write.contents c.args.out.now c.send.new.self) (Done (id_view c.args.id)) (answer_text (id_view c.new.result.id) (text c.new.result.outcome))
    (answered_text (id_view c.new.result.id) (id_view c.args.id) (text c.new.result.outcome) null (ap id_view c.new.ensures.made.0) (ap text c.new.ensures.made.1 ∙ null_written) c.new.ensures.json)
    c.send.ensures.fault
