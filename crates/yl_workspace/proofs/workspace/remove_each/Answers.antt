use Rattle.std.proofs.Common.{rules}
use Rattle.std.proofs.lemmas.Fn.{filter_same}
use Rattle.std.specs.Prelude.{not, bytes_eq}
use Rattle.yl_workspace.specs.Documents.{DocumentValue}
use Rattle.yl_workspace.proofs.workspace.remove_each.Goals as goal

pub returns : goal.returns
returns g c = filter_same _ (λ (d : DocumentValue). not (bytes_eq d.uri c.args.uri.now)) _ (λ x b f' k. search rules) c.args.documents.now.items c.retain.new.self.items c.retain.ensures.filtered
