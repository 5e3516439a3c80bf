use Rattle.std.proofs.Common.{◌≡◌, List, length, drop, ◌∙◌, ap, arith}
use Rattle.std.proofs.lemmas.List.{length-map, take_at}
use Rattle.yl_workspace.specs.Documents.{DocumentValue, all_lost, lost_document}
use Rattle.yl_workspace.proofs.workspace.Workspace.lose_all.Goals as goal

pub returns : goal.returns
returns g c =
    let ds : List DocumentValue = c.self.inside.documents.items in
    let new : List DocumentValue = c.lose_each.new.documents in
    let old = c.lose_each.ensures ∙ ap (λ (l : List DocumentValue). all_lost c.args.cause l) c.deref_mut.ensures.value in
    let all : length new ≡ c.self.inside.documents.len = omega (arith, ap length old, length-map ds (lost_document c.args.cause), ap length c.deref_mut.ensures.value, c.deref_mut.ensures.len) in
    take_at new (drop (length new) ds) c.self.inside.documents.len all ∙ old ∙ ap (λ (l : List DocumentValue). all_lost c.args.cause l) c.self.view_is
