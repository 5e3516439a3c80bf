use Rattle.std.proofs.Common.{◌≡◌, List, length, drop, ◌∙◌, ap, arith}
use Rattle.std.proofs.lemmas.List.{take_at}
use Rattle.yl_workspace.specs.Documents.{DocumentValue, configured_at, configured_document}
use Rattle.yl_workspace.proofs.Lists.{length-at}
use Rattle.yl_workspace.proofs.workspace.Workspace.configure_at.Goals as goal

pub returns : goal.returns
returns g c =
    let ds : List DocumentValue = c.self.inside.documents.items in
    let i = c.args.index in
    let new : List DocumentValue = c.configure_one.new.documents in
    let made = c.configure_one.ensures in
    let one : DocumentValue → DocumentValue = λ d. configured_document c.args.config made.0 d in
    let old = made.1 ∙ ap (λ (l : List DocumentValue). configured_at i c.args.config made.0 l) c.deref_mut.ensures.value in
    let all : length new ≡ c.self.inside.documents.len = omega (arith, ap length old, length-at i one ds, ap length c.deref_mut.ensures.value, c.deref_mut.ensures.len) in
    (made.0, take_at new (drop (length new) ds) c.self.inside.documents.len all ∙ old ∙ ap (λ (l : List DocumentValue). configured_at i c.args.config made.0 l) c.self.view_is)
