use Rattle.std.proofs.Common.{◌≡◌, ◌<◌, ◌≤◌, List, ℕ, true, false, get_or, length, zero-add, ap, sym, ◌∙◌, arith}
use Rattle.std.specs.Str.{bytes_eq}
use Rattle.yl_workspace.specs.Documents.{DocumentValue}
use Rattle.yl_workspace.proofs.Lists.{place, place_here, place_later, place_nowhere}
use Rattle.yl_workspace.proofs.workspace.position.Goals as goal

pub loop-i-init : goal.loop-i-init
loop-i-init g c = sym (zero-add (place c.args.uri.now c.args.documents.now))

pub loop-i-preserved : goal.loop-i-preserved
loop-i-preserved g c =
    let ds : List DocumentValue = c.args.documents.now in
    let uri = c.args.uri.now in
    let d : DocumentValue = c.index-documents-i.result in
    let here : bytes_eq (get_or ds c.loop-i.i d).uri uri ≡ false =
    ap (λ (x : DocumentValue). bytes_eq x.uri uri) (sym c.index-documents-i.is) ∙ (ap (λ (u : List ℕ). bytes_eq u uri) (sym c.uri.ensures) ∙ (sym c.eq.ensures ∙ c.if-eq.false)) in
    place_later uri ds c.loop-i.i d c.loop-i-test.true here c.loop-i.invariant

pub returns-then-eq : goal.returns-then-eq
returns-then-eq g c =
    let ds : List DocumentValue = c.args.documents.now in
    let uri = c.args.uri.now in
    let d : DocumentValue = c.index-documents-i.result in
    let here : bytes_eq (get_or ds c.loop-i.i d).uri uri ≡ true =
    ap (λ (x : DocumentValue). bytes_eq x.uri uri) (sym c.index-documents-i.is) ∙ (ap (λ (u : List ℕ). bytes_eq u uri) (sym c.uri.ensures) ∙ (sym c.eq.ensures ∙ c.if-eq.true)) in
    sym (place_here uri ds c.loop-i.i d c.loop-i-test.true here c.loop-i.invariant)

pub returns : goal.returns
returns g c = sym (place_nowhere c.args.uri.now c.args.documents.now c.loop-i.i c.loop-i-test.false c.loop-i.invariant)
