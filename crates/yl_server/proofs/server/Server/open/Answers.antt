use Rattle.std.proofs.Common.{◌≡◌, ◌∙◌, true, false, not, List, is_some, ap, sym}
use Rattle.std.specs.Prelude.{string_bytes}
use Rattle.std.specs.Option.{option_map}
use Rattle.json.specs.Value.{value_view}
use Rattle.yl_lsp.specs.Params.{OpenedValue}
use Rattle.yl_lsp.specs.Read.{opened_value}
use Rattle.yl_workspace.specs.Documents.{DocumentValue, document_at, opened}
use Rattle.yl_server.specs.Machine.{ServerValue, with_documents}
use Rattle.yl_server.specs.Replies.{messages_of}
use Rattle.yl_server.proofs.Decided.{opened_other, opened_with}
use Rattle.yl_server.proofs.Noticed.{copied_is}
use Rattle.yl_server.proofs.server.Server.open.Goals as goal

pub returns-in_default : goal.returns-in_default
returns-in_default g c = opened_other (value_view c.args.params.now) c.args.self.now c.spoil.new.self (messages_of c.spoil.new.self c.spoil.result) c.in_default.ensures c.spoil.ensures

pub returns-then-is_none : goal.returns-then-is_none
returns-then-is_none g c =
    let s : ServerValue = record {
      phase = c.self.inside.phase;
      how = c.self.inside.how;
      watches = c.self.inside.watches;
      standard = c.self.inside.standard;
      config = c.self.inside.config;
      file = option_map string_bytes c.self.inside.file;
      documents = c.self.inside.workspace;
    } in
    let o : OpenedValue = opened_value c.in-Some.opened in
    let chosen = c.found_at_first-config.ensures in
    let made = c.open.ensures.opened in
    let is_open : is_some (document_at o.uri c.open.new.self) ≡ false = sym (ap (λ x. is_some x) c.document.ensures) ∙ (copied_is c.document.result ∙ (c.is_none.ensures ∙ ap not c.if-is_none.true)) in
    opened_with (value_view c.args.params.now) o c.args.self.now (with_documents c.open.new.self s) c.found_at_first-config.result.0 c.found_at_first-config.result.1 made.0 chosen.0 false c.in-Some.ensures chosen.1 chosen.2
    (ap (λ (ds : List DocumentValue). with_documents ds s) made.1 ∙ ap (λ (t : ServerValue). with_documents (opened c.found_at_first-config.result.0 made.0 o t.documents) t) c.self.view_is) is_open

pub returns : goal.returns
returns g c =
    let s : ServerValue = record {
      phase = c.self.inside.phase;
      how = c.self.inside.how;
      watches = c.self.inside.watches;
      standard = c.self.inside.standard;
      config = c.self.inside.config;
      file = option_map string_bytes c.self.inside.file;
      documents = c.self.inside.workspace;
    } in
    let o : OpenedValue = opened_value c.in-Some.opened in
    let chosen = c.found_at_first-config.ensures in
    let made = c.open.ensures.opened in
    let is_open : is_some (document_at o.uri c.open.new.self) ≡ true = sym (ap (λ x. is_some x) c.document.ensures) ∙ (copied_is c.document.result ∙ (c.is_none.ensures ∙ ap not c.if-is_none.false)) in
    opened_with (value_view c.args.params.now) o c.args.self.now (with_documents c.open.new.self s) c.found_at_first-config.result.0 c.found_at_first-config.result.1 made.0 chosen.0 true c.in-Some.ensures chosen.1 chosen.2
    (ap (λ (ds : List DocumentValue). with_documents ds s) made.1 ∙ ap (λ (t : ServerValue). with_documents (opened c.found_at_first-config.result.0 made.0 o t.documents) t) c.self.view_is) is_open
