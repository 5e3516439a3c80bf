use Rattle.std.proofs.Common.{◌∙◌, ap, false, List, [], ◌∷◌}
use Rattle.std.specs.Prelude.{string_bytes}
use Rattle.std.specs.Option.{option_map}
use Rattle.yl_workspace.specs.declared.cause.Cause.TheVariants.{OutOfMemory}
use Rattle.yl_workspace.specs.Documents.{DocumentValue, lost}
use Rattle.yl_server.specs.Machine.{ServerValue, with_documents}
use Rattle.yl_server.proofs.server.Server.change_text.Goals as goal

pub returns-in-Err : goal.returns-in-Err
returns-in-Err g c =
    let s : ServerValue = record { phase = c.self.inside.phase; how = c.self.inside.how; watches = c.self.inside.watches; standard = c.self.inside.standard; config = c.self.inside.config; file = option_map string_bytes c.self.inside.file; documents = c.self.inside.workspace } in
    (false ∷ [], ap (λ (ds : List DocumentValue). with_documents ds s) c.lose.ensures ∙ ap (λ (t : ServerValue). with_documents (lost OutOfMemory c.args.uri.now t.documents) t) c.self.view_is)
