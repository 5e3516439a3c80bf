use Rattle.std.proofs.Common.{rules, ◌≡◌, arith, length, List, [], get_or, map, set, sym, ◌∙◌, ap, Some, None}
use Rattle.yl_lsp.specs.Read.{change_value}
use Rattle.yl_workspace.specs.Documents.{DocumentValue, changed_document, with_document}
use Rattle.yl_workspace.proofs.Lists.{found, inside_found, with_found, with_missing}
use Rattle.yl_workspace.proofs.workspace.Workspace.change.Goals as goal

pub returns-in-Some : goal.returns-in-Some
returns-in-Some g c =
    let ds : List DocumentValue = c.self.inside.documents.items in
    let uri = c.args.uri.now in
    let i = c.in-Some.i in
    let d : DocumentValue = c.index_mut.result.now in
    let at : found uri ds ≡ Some i = ap (λ (l : List DocumentValue). found uri l) (sym c.as_slice.ensures.value) ∙ sym c.in-Some.ensures in
    let is : d ≡ get_or ds i d = search rules in
    let made = c.change.ensures in
    let other : DocumentValue → DocumentValue = λ a. changed_document c.args.encoding made.0 c.args.version.now (map change_value c.args.changes.now) a in
    (made.0, ap (λ a. set ds i a) (made.1 ∙ ap other is) ∙ sym (with_found uri other ds i d at) ∙ ap (λ (l : List DocumentValue). with_document uri other l) c.self.view_is)

pub returns-in_default : goal.returns-in_default
returns-in_default g c =
    let ds : List DocumentValue = c.self.inside.documents.items in
    let uri = c.args.uri.now in
    let at : found uri ds ≡ None = ap (λ (l : List DocumentValue). found uri l) (sym c.as_slice.ensures.value) ∙ sym c.in_default.ensures in
    let other : DocumentValue → DocumentValue = λ a. changed_document c.args.encoding [] c.args.version.now (map change_value c.args.changes.now) a in
    ([], sym (ap (λ (l : List DocumentValue). with_document uri other l) (sym c.self.view_is) ∙ with_missing uri other ds at ∙ c.self.view_is))

pub index_mut-requires : goal.index_mut-requires
index_mut-requires g c =
    let ds : List DocumentValue = c.self.inside.documents.items in
    let uri = c.args.uri.now in
    let at : found uri ds ≡ Some c.in-Some.i = ap (λ (l : List DocumentValue). found uri l) (sym c.as_slice.ensures.value) ∙ sym c.in-Some.ensures in
    let inside = inside_found uri ds c.in-Some.i at in
    omega (arith, inside, c.as_slice.ensures.len, ap length c.as_slice.ensures.value)
