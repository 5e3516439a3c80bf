use Rattle.std.proofs.Common.{◌∙◌, true, None, Option, string_bytes, ap, sym}
use Rattle.yl_config.specs.declared.config.Config.{Config}
use Rattle.yl_workspace.specs.Changes.{TextValue}
use Rattle.yl_workspace.specs.Documents.{DocumentValue, configured_document}
use Rattle.yl_workspace.specs.Shown.{text_value}
use Rattle.yl_workspace.proofs.Ignored.{text_stays}
use Rattle.yl_workspace.proofs.document.Document.configure.Goals as goal

pub returns-in_default : goal.returns-in_default
returns-in_default g c =
    let new : TextValue → DocumentValue = λ t. record { uri = string_bytes c.self.inside.uri; version = string_bytes c.self.inside.version; config = None; text = t } in
    (true, ap new (text_stays (text_value c.self.inside.text)) ∙ ap (λ (d : DocumentValue). configured_document None true d) c.self.view_is ∙ ap (λ (o : Option Config). configured_document o true c.args.self.now) (sym c.in_default.is))
