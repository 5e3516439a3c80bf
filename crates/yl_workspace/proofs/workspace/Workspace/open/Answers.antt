use Rattle.std.proofs.Common.{rules, ◌≡◌, arith, length, true, false, List, [], ◌∷◌, ◌++◌, get_or, set, subst, sym, ◌∙◌, ap, Some, None}
use Rattle.std.specs.Prelude.{IsSome}
use Rattle.yl_lsp.specs.Read.{opened_value}
use Rattle.yl_workspace.specs.Documents.{DocumentValue, document_at, opened, opened_document}
use Rattle.yl_workspace.specs.Shown.{opened_again}
use Rattle.yl_workspace.proofs.Lists.{found, inside_found, document_missing}
use Rattle.yl_workspace.proofs.Opening.{opened_found, opened_new, opened_not, opened_there, new_there, on_err}
use Rattle.yl_workspace.proofs.workspace.Workspace.open.Goals as goal

pub returns-in_err-document-in-None-clause-opened : goal.returns-in_err-document-in-None-clause-opened
returns-in_err-document-in-None-clause-opened g c =
    let uri = c.args.document.uri.now in
    let at : found uri c.args.self.now ≡ None = ap (λ (l : List DocumentValue). found uri l) (sym (c.as_slice.ensures.value ∙ c.self.view_is)) ∙ sym c.in-None.ensures in
    (false ∷ [], sym (opened_not c.args.config (opened_value c.args.document) c.args.self.now at))

pub returns-in_err-document-in-None-clause-absent : goal.returns-in_err-document-in-None-clause-absent
returns-in_err-document-in-None-clause-absent g c =
    let uri = c.args.document.uri.now in
    let at : found uri c.args.self.now ≡ None = ap (λ (l : List DocumentValue). found uri l) (sym (c.as_slice.ensures.value ∙ c.self.view_is)) ∙ sym c.in-None.ensures in
    on_err c.from_residual.result _ (document_missing uri c.args.self.now at)

pub returns-in_err-push-in-None-clause-opened : goal.returns-in_err-push-in-None-clause-opened
returns-in_err-push-in-None-clause-opened g c =
    let uri = c.args.document.uri.now in
    let at : found uri c.args.self.now ≡ None = ap (λ (l : List DocumentValue). found uri l) (sym (c.as_slice.ensures.value ∙ c.self.view_is)) ∙ sym c.in-None.ensures in
    let same : c.push.new.self.items ≡ c.self.inside.documents.items = search rules in
    (false ∷ [], same ∙ c.self.view_is ∙ sym (opened_not c.args.config (opened_value c.args.document) c.args.self.now at))

pub returns-in_err-push-in-None-clause-absent : goal.returns-in_err-push-in-None-clause-absent
returns-in_err-push-in-None-clause-absent g c =
    let uri = c.args.document.uri.now in
    let at : found uri c.args.self.now ≡ None = ap (λ (l : List DocumentValue). found uri l) (sym (c.as_slice.ensures.value ∙ c.self.view_is)) ∙ sym c.in-None.ensures in
    on_err c.from_residual-in_err-push-in-None.result _ (document_missing uri c.args.self.now at)

pub returns-in-Some-clause-opened : goal.returns-in-Some-clause-opened
returns-in-Some-clause-opened g c =
    let ds : List DocumentValue = c.self.inside.documents.items in
    let o = opened_value c.args.document in
    let i = c.in-Some.i in
    let d : DocumentValue = c.index_mut.result.now in
    let at : found o.uri ds ≡ Some i = ap (λ (l : List DocumentValue). found o.uri l) (sym c.as_slice.ensures.value) ∙ sym c.in-Some.ensures in
    let is : d ≡ get_or ds i d = search rules in
    let made = c.open_again.ensures in
    let new : DocumentValue → DocumentValue = λ a. opened_again c.args.config made.0 o a in
    (made.0, ap (λ a. set ds i a) (made.1 ∙ ap new is) ∙ sym (opened_found c.args.config made.0 o ds i d at) ∙ ap (λ (l : List DocumentValue). opened c.args.config made.0 o l) c.self.view_is)

pub returns-in-Some-clause-ok : goal.returns-in-Some-clause-ok
returns-in-Some-clause-ok g c =
    let ds : List DocumentValue = c.self.inside.documents.items in
    let o = opened_value c.args.document in
    let i = c.in-Some.i in
    let d : DocumentValue = c.index_mut.result.now in
    let at : found o.uri ds ≡ Some i = ap (λ (l : List DocumentValue). found o.uri l) (sym c.as_slice.ensures.value) ∙ sym c.in-Some.ensures in
    let is : d ≡ get_or ds i d = search rules in
    let made = c.open_again.ensures in
    let new : DocumentValue → DocumentValue = λ a. opened_again c.args.config made.0 o a in
    let same = ap (λ a. set ds i a) (made.1 ∙ ap new is) ∙ sym (opened_found c.args.config made.0 o ds i d at) in
    subst (λ (l : List DocumentValue). IsSome (document_at o.uri l)) (sym same) (opened_there c.args.config made.0 o ds i d at)

pub returns-in_ok-push-in-None-clause-opened : goal.returns-in_ok-push-in-None-clause-opened
returns-in_ok-push-in-None-clause-opened g c =
    let o = opened_value c.args.document in
    let at : found o.uri c.args.self.now ≡ None = ap (λ (l : List DocumentValue). found o.uri l) (sym (c.as_slice.ensures.value ∙ c.self.view_is)) ∙ sym c.in-None.ensures in
    let ds : List DocumentValue = c.self.inside.documents.items in
    let made = c.in_ok-document-in-None.ensures in
    let pushed : c.push.new.self.items ≡ ds ++ c.in_ok-document-in-None.document ∷ [] = search rules in (
      true ∷ made.0 ∷ [],
      pushed ∙ ap (λ (a : DocumentValue). ds ++ a ∷ []) made.1 ∙ ap (λ (l : List DocumentValue). l ++ opened_document c.args.config made.0 o ∷ []) c.self.view_is
          ∙ sym (opened_new c.args.config made.0 o c.args.self.now at),
    )

pub returns-in_ok-push-in-None-clause-ok : goal.returns-in_ok-push-in-None-clause-ok
returns-in_ok-push-in-None-clause-ok g c =
    let o = opened_value c.args.document in
    let ds : List DocumentValue = c.self.inside.documents.items in
    let at : found o.uri ds ≡ None = ap (λ (l : List DocumentValue). found o.uri l) (sym c.as_slice.ensures.value) ∙ sym c.in-None.ensures in
    let made = c.in_ok-document-in-None.ensures in
    let pushed : c.push.new.self.items ≡ ds ++ c.in_ok-document-in-None.document ∷ [] = search rules in
    let same = pushed ∙ ap (λ (a : DocumentValue). ds ++ a ∷ []) made.1 ∙ sym (opened_new c.args.config made.0 o ds at) in
    subst (λ (l : List DocumentValue). IsSome (document_at o.uri l)) (sym same) (new_there c.args.config made.0 o ds)

pub index_mut-requires : goal.index_mut-requires
index_mut-requires g c =
    let ds : List DocumentValue = c.self.inside.documents.items in
    let uri = c.args.document.uri.now in
    let at : found uri ds ≡ Some c.in-Some.i = ap (λ (l : List DocumentValue). found uri l) (sym c.as_slice.ensures.value) ∙ sym c.in-Some.ensures in
    let inside = inside_found uri ds c.in-Some.i at in
    omega (arith, inside, c.as_slice.ensures.len, ap length c.as_slice.ensures.value)

pub returns-in_err-push-in-None-clause-err : goal.returns-in_err-push-in-None-clause-err
returns-in_err-push-in-None-clause-err g c =
    let same : c.push.new.self.items ≡ c.self.inside.documents.items = search rules in
    on_err c.from_residual-in_err-push-in-None.result _ (same ∙ c.self.view_is)
