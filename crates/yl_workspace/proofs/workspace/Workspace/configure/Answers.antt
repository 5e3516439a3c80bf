use Rattle.std.proofs.Common.{◌≡◌, List, length, drop, ◌∙◌, ap, arith}
use Rattle.std.proofs.lemmas.List.{take_at}
use Rattle.yl_workspace.specs.Documents.{DocumentValue, configured}
use Rattle.yl_workspace.proofs.Lists.{length-configured}
use Rattle.yl_workspace.proofs.workspace.Workspace.configure.Goals as goal

pub returns : goal.returns
returns g c =
    let ds : List DocumentValue = c.self.inside.documents.items in
    let new : List DocumentValue = c.configure_each.new.documents in
    let made = c.configure_each.ensures in
    let old = made.1 ∙ ap (λ (l : List DocumentValue). configured c.args.config made.0 l) c.deref_mut.ensures.value in
    let all : length new ≡ c.self.inside.documents.len = omega (arith, ap length old, length-configured c.args.config made.0 ds, ap length c.deref_mut.ensures.value, c.deref_mut.ensures.len) in
    (made.0, take_at new (drop (length new) ds) c.self.inside.documents.len all ∙ old ∙ ap (λ (l : List DocumentValue). configured c.args.config made.0 l) c.self.view_is)
