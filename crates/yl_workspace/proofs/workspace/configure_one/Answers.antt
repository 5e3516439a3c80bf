use Rattle.std.proofs.Common.{List, set, sym, ◌∙◌, ap}
use Rattle.yl_workspace.specs.Documents.{DocumentValue, configured_document}
use Rattle.yl_workspace.proofs.Lists.{with_index}
use Rattle.yl_workspace.proofs.workspace.configure_one.Goals as goal

pub returns : goal.returns
returns g c =
    let ds : List DocumentValue = c.args.documents.now in
    let i = c.args.index in
    let d : DocumentValue = c.index-documents-index.result in
    let made = c.configure.ensures in
    let other : DocumentValue → DocumentValue = λ a. configured_document c.args.config made.0 a in
    (made.0, ap (λ a. set ds i a) made.1 ∙ sym (with_index i other ds d c.requires))
