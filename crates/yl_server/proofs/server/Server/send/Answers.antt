use Rattle.std.proofs.Common.{◌≡◌, ◌∷◌, [], ◌++◌, ap, sym, ◌∙◌}
use Rattle.yl_rpc.specs.Calls.{Null}
use Rattle.yl_rpc.specs.Views.{id_view}
use Rattle.yl_server.specs.Machine.{told_fault, told_of, told_of_all}
use Rattle.yl_server.specs.Messages.{Initialized, Refused}
use Rattle.yl_server.specs.Replies.{messages_of}
use Rattle.yl_server.specs.Steps.{sink}
use Rattle.yl_server.proofs.Joined.{cut_then, first_cut, sent_then}
use Rattle.yl_server.proofs.server.Server.send.Goals as goal

-- ---- `initialize`, and what is wrong with the settings

pub returns-in_err-welcome-in-Welcome-clause-err : goal.returns-in_err-welcome-in-Welcome-clause-err
returns-in_err-welcome-in-Welcome-clause-err g c =
    let x = c.in-Welcome in
    let one = Initialized (id_view x.id) c.encoding.result ∷ [] in
    let two = told_fault x.fault in
    let all : messages_of c.args.self.now c.args.reply ≡ one ++ two = ap (messages_of c.args.self.now) x.is ∙ ap (λ e. Initialized (id_view x.id) e ∷ two) (sym c.encoding.ensures) in
    first_cut (sink g.W.Write.contents c.args.out.now c.welcome.new.out) one two (messages_of c.args.self.now c.args.reply) c.from_residual.result c.in_err-welcome-in-Welcome.field-0.0 all c.from_residual.ensures.1 c.in_err-welcome-in-Welcome.ensures.err

pub returns-in_ok-welcome-in-Welcome-clause-ok : goal.returns-in_ok-welcome-in-Welcome-clause-ok
returns-in_ok-welcome-in-Welcome-clause-ok g c =
    let x = c.in-Welcome in
    let one = Initialized (id_view x.id) c.encoding.result ∷ [] in
    let two = told_fault x.fault in
    let all : messages_of c.args.self.now c.args.reply ≡ one ++ two = ap (messages_of c.args.self.now) x.is ∙ ap (λ e. Initialized (id_view x.id) e ∷ two) (sym c.encoding.ensures) in
    sent_then g.W.Write.contents c.args.out.now c.welcome.new.out c.tell_fault.new.out one two (messages_of c.args.self.now c.args.reply) c.tell_fault.result all c.in_ok-welcome-in-Welcome.ensures.ok c.tell_fault.ensures.ok

pub returns-in_ok-welcome-in-Welcome-clause-err : goal.returns-in_ok-welcome-in-Welcome-clause-err
returns-in_ok-welcome-in-Welcome-clause-err g c =
    let x = c.in-Welcome in
    let one = Initialized (id_view x.id) c.encoding.result ∷ [] in
    let two = told_fault x.fault in
    let all : messages_of c.args.self.now c.args.reply ≡ one ++ two = ap (messages_of c.args.self.now) x.is ∙ ap (λ e. Initialized (id_view x.id) e ∷ two) (sym c.encoding.ensures) in
    cut_then g.W.Write.contents c.args.out.now c.welcome.new.out c.tell_fault.new.out one two (messages_of c.args.self.now c.args.reply) c.tell_fault.result all c.in_ok-welcome-in-Welcome.ensures.ok c.tell_fault.ensures.err

-- ---- a document, and what is wrong with its configuration

pub returns-in_err-tell_of-in-Document-clause-err : goal.returns-in_err-tell_of-in-Document-clause-err
returns-in_err-tell_of-in-Document-clause-err g c =
    let x = c.in-Document in
    let one = told_of x.uri.now c.args.self.now ∷ [] in
    let two = told_fault x.fault in
    let all : messages_of c.args.self.now c.args.reply ≡ one ++ two = ap (messages_of c.args.self.now) x.is in
    first_cut (sink g.W.Write.contents c.args.out.now c.tell_of.new.out) one two (messages_of c.args.self.now c.args.reply) c.from_residual-in_err-tell_of-in-Document.result c.in_err-tell_of-in-Document.field-0.0 all c.from_residual-in_err-tell_of-in-Document.ensures.1 c.in_err-tell_of-in-Document.ensures.err

pub returns-in_ok-tell_of-in-Document-clause-ok : goal.returns-in_ok-tell_of-in-Document-clause-ok
returns-in_ok-tell_of-in-Document-clause-ok g c =
    let x = c.in-Document in
    let one = told_of x.uri.now c.args.self.now ∷ [] in
    let two = told_fault x.fault in
    let all : messages_of c.args.self.now c.args.reply ≡ one ++ two = ap (messages_of c.args.self.now) x.is in
    sent_then g.W.Write.contents c.args.out.now c.tell_of.new.out c.tell_fault-in-Document.new.out one two (messages_of c.args.self.now c.args.reply) c.tell_fault-in-Document.result all c.in_ok-tell_of-in-Document.ensures.ok c.tell_fault-in-Document.ensures.ok

pub returns-in_ok-tell_of-in-Document-clause-err : goal.returns-in_ok-tell_of-in-Document-clause-err
returns-in_ok-tell_of-in-Document-clause-err g c =
    let x = c.in-Document in
    let one = told_of x.uri.now c.args.self.now ∷ [] in
    let two = told_fault x.fault in
    let all : messages_of c.args.self.now c.args.reply ≡ one ++ two = ap (messages_of c.args.self.now) x.is in
    cut_then g.W.Write.contents c.args.out.now c.tell_of.new.out c.tell_fault-in-Document.new.out one two (messages_of c.args.self.now c.args.reply) c.tell_fault-in-Document.result all c.in_ok-tell_of-in-Document.ensures.ok c.tell_fault-in-Document.ensures.err

-- ---- all documents, and what is wrong with their configurations

pub returns-in_ok-tell_of_all-in-All-clause-err : goal.returns-in_ok-tell_of_all-in-All-clause-err
returns-in_ok-tell_of_all-in-All-clause-err g c =
    let x = c.in-All in
    let one = told_of_all c.args.self.now in
    let two = told_fault x.fault in
    let all : messages_of c.args.self.now c.args.reply ≡ one ++ two = ap (messages_of c.args.self.now) x.is in
    cut_then g.W.Write.contents c.args.out.now c.tell_of_all.new.out c.tell_fault-in-All.new.out one two (messages_of c.args.self.now c.args.reply) c.tell_fault-in-All.result all c.in_ok-tell_of_all-in-All.ensures.ok c.tell_fault-in-All.ensures.err

-- ---- a body that was not read

pub returns-in_err-refuse-in-Missed-clause-err : goal.returns-in_err-refuse-in-Missed-clause-err
returns-in_err-refuse-in-Missed-clause-err g c =
    let x = c.in-Missed in
    let one = Refused Null x.code x.words.now ∷ [] in
    let two = told_of_all c.args.self.now in
    let all : messages_of c.args.self.now c.args.reply ≡ one ++ two = ap (messages_of c.args.self.now) x.is in
    first_cut (sink g.W.Write.contents c.args.out.now c.refuse-in-Missed.new.out) one two (messages_of c.args.self.now c.args.reply) c.from_residual-in_err-refuse-in-Missed.result c.in_err-refuse-in-Missed.field-0.0 all c.from_residual-in_err-refuse-in-Missed.ensures.1 c.in_err-refuse-in-Missed.ensures.err

pub returns-in_ok-refuse-in-Missed-clause-ok : goal.returns-in_ok-refuse-in-Missed-clause-ok
returns-in_ok-refuse-in-Missed-clause-ok g c =
    let x = c.in-Missed in
    let one = Refused Null x.code x.words.now ∷ [] in
    let two = told_of_all c.args.self.now in
    let all : messages_of c.args.self.now c.args.reply ≡ one ++ two = ap (messages_of c.args.self.now) x.is in
    sent_then g.W.Write.contents c.args.out.now c.refuse-in-Missed.new.out c.tell_of_all-in-Missed.new.out one two (messages_of c.args.self.now c.args.reply) c.tell_of_all-in-Missed.result all c.in_ok-refuse-in-Missed.ensures.ok c.tell_of_all-in-Missed.ensures.ok

pub returns-in_ok-refuse-in-Missed-clause-err : goal.returns-in_ok-refuse-in-Missed-clause-err
returns-in_ok-refuse-in-Missed-clause-err g c =
    let x = c.in-Missed in
    let one = Refused Null x.code x.words.now ∷ [] in
    let two = told_of_all c.args.self.now in
    let all : messages_of c.args.self.now c.args.reply ≡ one ++ two = ap (messages_of c.args.self.now) x.is in
    cut_then g.W.Write.contents c.args.out.now c.refuse-in-Missed.new.out c.tell_of_all-in-Missed.new.out one two (messages_of c.args.self.now c.args.reply) c.tell_of_all-in-Missed.result all c.in_ok-refuse-in-Missed.ensures.ok c.tell_of_all-in-Missed.ensures.err
