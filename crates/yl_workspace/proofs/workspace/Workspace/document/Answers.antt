use Rattle.std.proofs.Common.{rules, ◌≡◌, arith, length, List, get_or, sym, ◌∙◌, ap, Some, None}
use Rattle.std.specs.Prelude.{option_copied}
use Rattle.yl_workspace.specs.Documents.{DocumentValue, document_at}
use Rattle.yl_workspace.proofs.Lists.{found, inside_found, document_found, document_missing}
use Rattle.yl_workspace.proofs.workspace.Workspace.document.Goals as goal

pub returns-in_err-i : goal.returns-in_err-i
returns-in_err-i g c =
    let ds : List DocumentValue = c.self.inside.documents.items in
    let uri = c.args.uri.now in
    let at : found uri ds ≡ None = ap (λ (l : List DocumentValue). found uri l) (sym c.as_slice.ensures.value) ∙ sym c.in_err-i.ensures in
    ap (λ r. option_copied r) c.from_residual.ensures ∙ sym (document_missing uri ds at) ∙ ap (λ (l : List DocumentValue). document_at uri l) c.self.view_is

pub returns : goal.returns
returns g c =
    let ds : List DocumentValue = c.self.inside.documents.items in
    let uri = c.args.uri.now in
    let i = c.in_ok-i.i in
    let d : DocumentValue = c.index.result.now in
    let at : found uri ds ≡ Some i = ap (λ (l : List DocumentValue). found uri l) (sym c.as_slice.ensures.value) ∙ sym c.in_ok-i.ensures in
    let is : d ≡ get_or ds i d = search rules in
    ap (λ (a : DocumentValue). Some a) is ∙ sym (document_found uri ds i d at) ∙ ap (λ (l : List DocumentValue). document_at uri l) c.self.view_is

pub index-requires : goal.index-requires
index-requires g c =
    let ds : List DocumentValue = c.self.inside.documents.items in
    let uri = c.args.uri.now in
    let at : found uri ds ≡ Some c.in_ok-i.i = ap (λ (l : List DocumentValue). found uri l) (sym c.as_slice.ensures.value) ∙ sym c.in_ok-i.ensures in
    let inside = inside_found uri ds c.in_ok-i.i at in
    omega (arith, inside, c.as_slice.ensures.len, ap length c.as_slice.ensures.value)
