use Rattle.std.proofs.Common.{◌<◌, List, ◌∷◌, [], set, length, refl, ◌∙◌, ap, arith}
use Rattle.yl_workspace.specs.Documents.{DocumentValue, configured, configured_document}
use Rattle.yl_workspace.proofs.Lists.{each_step, each_done}
use Rattle.yl_workspace.proofs.workspace.configure_each.Goals as goal

pub loop-document-init : goal.loop-document-init
loop-document-init g c = λ rest. (rest, refl)

pub loop-document-preserved : goal.loop-document-preserved
loop-document-preserved g c = λ rest.
    let xs : List DocumentValue = c.loop-document.document-items in
    let i = c.loop-document.document-index in
    let d : DocumentValue = c.document-item.result in
    let made = c.configure.ensures in
    let one : DocumentValue → DocumentValue = λ a. configured_document c.args.config made.0 a in
    let before = c.loop-document.invariant (made.0 ∷ rest) in
    let within : i < length xs = omega (arith, c.loop-document-test.true, c.loop-document.auto.document-items) in
    let new = ap (λ a. set xs i a) made.1 in
    (before.0, each_step (configured c.args.config (made.0 ∷ rest)) (configured c.args.config rest) one (λ a ds. refl) xs (set xs i c.configure.new.self) i d within new ∙ before.1)

pub returns : goal.returns
returns g c =
    let done = c.loop-document.invariant [] in
    (done.0, each_done (configured c.args.config []) refl c.loop-document.document-items c.loop-document.document-index (omega arith) ∙ done.1)
