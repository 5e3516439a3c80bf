use Rattle.std.proofs.Common.{◌∙◌, ap}
use Rattle.std.specs.Option.{is_none}
use Rattle.yl_workspace.specs.Documents.{DocumentValue}
use Rattle.yl_workspace.proofs.Ignored.{ignored_is}
use Rattle.yl_workspace.proofs.document.Document.is_ignored.Goals as goal

pub returns : goal.returns
returns g c = ignored_is c.self.inside.is_ignored c.self.inside.config ∙ ap (λ (d : DocumentValue). is_none d.config) c.self.view_is
