use Rattle.std.proofs.Common.{◌≡◌, ◌∙◌, ap, false, is_some, not, sym}
use Rattle.yl_workspace.specs.Documents.{document_at}
use Rattle.yl_server.specs.Machine.{ServerValue}
use Rattle.json.specs.Value.{value_view}
use Rattle.yl_server.specs.Replies.{messages_of}
use Rattle.yl_server.proofs.Noticed.{changed_other, changed_unopened, copied_is, no_document, no_version}
use Rattle.yl_server.proofs.server.Server.change.Goals as goal

pub returns-in_default : goal.returns-in_default
returns-in_default g c =
    let j = value_view c.args.params.now in
    changed_other j c.args.self.now c.spoil.new.self (messages_of c.spoil.new.self c.spoil.result) (no_document j c.in_default.ensures) c.spoil.ensures

pub returns-in_default-version_in : goal.returns-in_default-version_in
returns-in_default-version_in g c =
    let j = value_view c.args.params.now in
    changed_other j c.args.self.now c.spoil-in_default-version_in.new.self (messages_of c.spoil-in_default-version_in.new.self c.spoil-in_default-version_in.result) (no_version j c.in_default-version_in.ensures) c.spoil-in_default-version_in.ensures

pub returns-then-is_none : goal.returns-then-is_none
returns-then-is_none g c =
    let unopened : is_some (document_at c.in-Some.uri.now c.args.self.now.documents) ≡ false =
    sym (ap (λ (s : ServerValue). is_some (document_at c.in-Some.uri.now s.documents)) c.self.view_is)
    ∙ (sym (ap (λ o. is_some o) c.document.ensures) ∙ (copied_is c.document.result ∙ (c.is_none.ensures ∙ ap not c.if-is_none.true))) in
    changed_unopened (value_view c.args.params.now) c.in-Some.uri.now c.in-Some-version_in.version.now c.args.self.now c.in-Some.ensures c.in-Some-version_in.ensures unopened
