use Rattle.std.proofs.Common.{◌≡◌, ℕ, true, false, cond, None, Some, List, [], ◌∷◌, map, string_bytes, subst, ◌∙◌, ap}
use Rattle.yl_lsp.specs.Read.{change_value}
use Rattle.yl_workspace.specs.Changes.{TextValue, text_after_changes}
use Rattle.yl_workspace.specs.Documents.{DocumentValue, changed_document}
use Rattle.yl_workspace.specs.Shown.{text_value}
use Rattle.yl_workspace.proofs.document.Document.change.Goals as goal

pub returns-in_default : goal.returns-in_default
returns-in_default g c = (false ∷ [], c.lose.ensures)

pub returns : goal.returns
returns g c =
    let cs = map change_value c.args.changes.now in
    let made = c.changed_by_all.ensures.text in
    let new : List ℕ → TextValue → DocumentValue = λ v t. record { uri = string_bytes c.self.inside.uri; version = v; config = cond c.self.inside.is_ignored None (Some c.self.inside.config); text = t } in
    let text = made.1 ∙ ap (λ t. text_after_changes c.args.encoding made.0 (text_value t) cs) c.replace-text.ensures.value in
    let is = ap (λ v. new v (text_value c.changed_by_all.result)) c.in-Ok.ensures.ok ∙ ap (λ t. new c.args.version.now t) text in
    let P : DocumentValue → Type 0 = λ d. new (string_bytes c.in-Ok.version) (text_value c.changed_by_all.result) ≡ changed_document c.args.encoding (true ∷ made.0) c.args.version.now cs d in
    (true ∷ made.0, subst P c.self.view_is is)
