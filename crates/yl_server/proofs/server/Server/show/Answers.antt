use Rattle.yl_lsp.specs.Shown.{content_diagnostics}
use Rattle.yl_server.specs.Messages.{Published, Shown}
use Rattle.yl_server.specs.Steps.{sink}
use Rattle.yl_server.proofs.Replied.{sent_one, shown_text, stopped_one}
use Rattle.yl_server.proofs.server.Server.show.Goals as goal

pub returns-clause-ok : goal.returns-clause-ok
returns-clause-ok g c =
    let how = c.args.self.now.how in
    let d = c.args.document.now in
    sent_one c.send.result (sink g.W.Write.contents c.args.out.now c.send.new.self) (Published c.args.uri.now (Shown how d)) _
    (shown_text c.args.uri.now how d c.version.result.now (content_diagnostics c.content.result) c.version.ensures c.content.ensures) c.send.ensures.ok c.send.ensures.quiet

pub returns-clause-err : goal.returns-clause-err
returns-clause-err g c =
    let how = c.args.self.now.how in
    let d = c.args.document.now in
    stopped_one c.send.result (sink g.W.Write.contents c.args.out.now c.send.new.self) (Published c.args.uri.now (Shown how d)) _
    (shown_text c.args.uri.now how d c.version.result.now (content_diagnostics c.content.result) c.version.ensures c.content.ensures) c.send.ensures.fault
