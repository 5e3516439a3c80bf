use Rattle.yl_lsp.specs.Messages.{error_message, placed_words}
use Rattle.yl_rpc.specs.Answers.{json_text}
use Rattle.yl_server.specs.Messages.{Told}
use Rattle.yl_server.specs.Settings.{setting_words}
use Rattle.yl_server.specs.Steps.{sink}
use Rattle.yl_server.proofs.Faults.{placed_text, words_plain}
use Rattle.yl_server.proofs.Replied.{sent_one, stopped_one}
use Rattle.yl_server.proofs.reply.tell_one.Goals as goal

pub invariant_of-send : goal.invariant_of-send
invariant_of-send g c = record { plain = words_plain c.words-text.result.now c.args.fault c.words-text.ensures }

pub returns-in-Some-clause-ok : goal.returns-in-Some-clause-ok
returns-in-Some-clause-ok g c =
    let p = c.in-Some.place in
    let text = c.words-text.result.now in
    sent_one c.send.result (sink g.W.Write.contents c.args.out.now c.send.new.self) (Told (setting_words c.args.fault)) (json_text (error_message (placed_words text p.line p.column)))
    (placed_text text c.args.fault p c.words-text.ensures c.in-Some.ensures) c.send.ensures.ok c.send.ensures.quiet

pub returns-in-Some-clause-err : goal.returns-in-Some-clause-err
returns-in-Some-clause-err g c =
    let p = c.in-Some.place in
    let text = c.words-text.result.now in
    stopped_one c.send.result (sink g.W.Write.contents c.args.out.now c.send.new.self) (Told (setting_words c.args.fault)) (json_text (error_message (placed_words text p.line p.column)))
    (placed_text text c.args.fault p c.words-text.ensures c.in-Some.ensures) c.send.ensures.fault
