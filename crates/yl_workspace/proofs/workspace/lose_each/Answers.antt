use Rattle.std.proofs.Common.{◌<◌, List, set, length, refl, ◌∙◌, ap, arith}
use Rattle.yl_workspace.specs.Documents.{DocumentValue, all_lost, lost_document}
use Rattle.yl_workspace.proofs.Lists.{each_step, each_done}
use Rattle.yl_workspace.proofs.workspace.lose_each.Goals as goal

pub loop-document-preserved : goal.loop-document-preserved
loop-document-preserved g c =
    let xs : List DocumentValue = c.loop-document.document-items in
    let i = c.loop-document.document-index in
    let d : DocumentValue = c.document-item.result in
    let one : DocumentValue → DocumentValue = λ a. lost_document c.args.cause a in
    let within : i < length xs = omega (arith, c.loop-document-test.true, c.loop-document.auto.document-items) in
    let new = ap (λ a. set xs i a) c.lose.ensures in
    each_step (all_lost c.args.cause) (all_lost c.args.cause) one (λ a ds. refl) xs (set xs i c.lose.new.self) i d within new ∙ c.loop-document.invariant

pub returns : goal.returns
returns g c = each_done (all_lost c.args.cause) refl c.loop-document.document-items c.loop-document.document-index (omega arith) ∙ c.loop-document.invariant
