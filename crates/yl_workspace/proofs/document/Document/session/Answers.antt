use Rattle.std.proofs.Common.{ap, subst}
use Rattle.std.specs.Prelude.{IfOk, Result}
use Rattle.yl_text.specs.Lines.{text_of}
use Rattle.yl_session.specs.State.{SessionValue, Shows}
use Rattle.yl_workspace.specs.declared.cause.Cause.{Cause}
use Rattle.yl_workspace.specs.Documents.{DocumentValue}
use Rattle.yl_workspace.specs.Shown.{IsFollowed, text_value}
use Rattle.yl_workspace.proofs.Ignored.{shown_if}
use Rattle.yl_workspace.proofs.document.Document.session.Goals as goal

pub returns-in-Ok : goal.returns-in-Ok
returns-in-Ok g c =
    let s : SessionValue = c.in-Ok.session in
    let Q : Result SessionValue Cause → Type 0 = λ r. IfOk r (λ x. Shows c.self.inside.config (text_of x.rows) x) in
    let shown : Shows c.self.inside.config (text_of s.rows) s = subst Q c.in-Ok.is c.self.invariant in
    let P : DocumentValue → Type 0 = λ d. IsFollowed d s in
    subst P c.self.view_is
    (record { text = text_of s.rows; followed = ap (λ t. text_value t) c.in-Ok.is; shown = shown_if c.self.inside.is_ignored c.self.inside.config (text_of s.rows) s shown })
