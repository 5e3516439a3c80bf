use Rattle.std.proofs.Common.{◌≡◌, Bool, List, ℕ, subst, sym}
use Rattle.yl_text.specs.Fault.{IsFaultOf, IsText}
use Rattle.yl_session.specs.State.{Shows}
use Rattle.yl_workspace.specs.Changes.{Lost, followed_if, within_bounds}
use Rattle.yl_workspace.proofs.Texts.{open_fault, opened}
use Rattle.yl_workspace.proofs.change.opened_text.Goals as goal

pub returns-in-Ok-clause-text : goal.returns-in-Ok-clause-text
returns-in-Ok-clause-text g c =
    let text = c.args.text.now in
    let is : IsText text = subst (λ (t : List ℕ). IsText t) c.as_bytes.ensures.value c.in-Ok.ensures.text in
    let shown : Shows c.args.config text c.in-Ok.session = subst (λ (t : List ℕ). Shows c.args.config t c.in-Ok.session) c.as_bytes.ensures.value c.in-Ok.ensures.shown in
    opened c.args.config text c.in-Ok.session shown is.short

pub returns-in-Err-clause-text : goal.returns-in-Err-clause-text
returns-in-Err-clause-text g c =
    let fault = c.in-Err.fault in
    let text = c.args.text.now in
    let is : IsFaultOf text fault = subst (λ (t : List ℕ). IsFaultOf t fault) c.as_bytes.ensures.value c.in-Err.ensures.text in
    let made = open_fault text fault c.utf8.text is in
    subst (λ cause. (granted : Bool) × (Lost cause ≡ followed_if granted (within_bounds text))) (sym c.cause_of.ensures) made
