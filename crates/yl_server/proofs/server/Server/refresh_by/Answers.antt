use Rattle.std.proofs.Common.{◌≡◌, ◌∙◌, true, false, List, is_some, ap, sym}
use Rattle.std.specs.Prelude.{string_bytes}
use Rattle.std.specs.Option.{option_map}
use Rattle.yl_workspace.specs.Documents.{DocumentValue}
use Rattle.yl_server.specs.Folders.{governed_each}
use Rattle.yl_server.specs.Machine.{ServerValue, with_documents}
use Rattle.yl_server.specs.Replies.{messages_of}
use Rattle.yl_server.proofs.Decided.{refreshed_all, refreshed_named, refreshed_same}
use Rattle.yl_server.proofs.server.Server.refresh_by.Goals as goal

pub returns-then-is_some : goal.returns-then-is_some
returns-then-is_some g c =
    let named : is_some c.args.self.now.config ≡ true = sym (ap (λ (t : ServerValue). is_some t.config) c.self.view_is) ∙ (sym c.is_some.ensures ∙ c.if-is_some.true) in
    refreshed_named c.args.self.now c.read_again.new.self (messages_of c.read_again.new.self c.read_again.result) named c.read_again.ensures

pub returns-then-refreshed : goal.returns-then-refreshed
returns-then-refreshed g c =
    let s : ServerValue = record {
      phase = c.self.inside.phase;
      how = c.self.inside.how;
      watches = c.self.inside.watches;
      standard = c.self.inside.standard;
      config = c.self.inside.config;
      file = option_map string_bytes c.self.inside.file;
      documents = c.self.inside.workspace;
    } in
    let made = c.refresh-refreshed.ensures in
    let unnamed : is_some c.args.self.now.config ≡ false = sym (ap (λ (t : ServerValue). is_some t.config) c.self.view_is) ∙ (sym c.is_some.ensures ∙ c.if-is_some.false) in
    refreshed_all c.args.self.now (with_documents c.refresh-refreshed.new.workspace s) made.1 made.0 c.refresh-refreshed.result.fault unnamed (sym made.3 ∙ c.if-refreshed.true)
    (ap (λ (ds : List DocumentValue). with_documents ds s) made.2 ∙ ap (λ (t : ServerValue). with_documents (governed_each made.0 made.1 t.documents) t) c.self.view_is) made.4

pub returns : goal.returns
returns g c =
    let s : ServerValue = record {
      phase = c.self.inside.phase;
      how = c.self.inside.how;
      watches = c.self.inside.watches;
      standard = c.self.inside.standard;
      config = c.self.inside.config;
      file = option_map string_bytes c.self.inside.file;
      documents = c.self.inside.workspace;
    } in
    let made = c.refresh-refreshed.ensures in
    let unnamed : is_some c.args.self.now.config ≡ false = sym (ap (λ (t : ServerValue). is_some t.config) c.self.view_is) ∙ (sym c.is_some.ensures ∙ c.if-is_some.false) in
    refreshed_same c.args.self.now (with_documents c.refresh-refreshed.new.workspace s) made.1 made.0 c.refresh-refreshed.result.fault unnamed (sym made.3 ∙ c.if-refreshed.false)
    (ap (λ (ds : List DocumentValue). with_documents ds s) made.2 ∙ ap (λ (t : ServerValue). with_documents (governed_each made.0 made.1 t.documents) t) c.self.view_is) made.4
