use Rattle.std.proofs.Common.{◌≡◌, ◌∷◌, [], ◌++◌, ◌<◌, ◌≤◌, ◌+◌, refl, subst, List, ap, sym, ◌∙◌, length, get_or, map, take, drop}
use Rattle.yl_workspace.specs.Documents.{DocumentValue}
use Rattle.yl_server.specs.Machine.{told_of_all}
use Rattle.std.proofs.lemmas.List.{take_all}
use Rattle.yl_text.specs.Watched.{device_of, failures_of}
use Rattle.yl_frames.specs.Sending.{watched_of}
use Rattle.yl_server.specs.Messages.{MessageValue, Published, Shown}
use Rattle.yl_server.specs.Steps.{AreSent, sink}
use Rattle.yl_server.proofs.Sending.{none_sent}
use Rattle.yl_server.proofs.Joined.{both_sent, first_cut, map_more, map_whole, second_cut}
use Rattle.yl_server.proofs.server.Server.tell_of_all.Goals as goal

pub returns-in_err-show-clause-err : goal.returns-in_err-show-clause-err
returns-in_err-show-clause-err g c =
    let told = λ (d : DocumentValue). Published d.uri (Shown c.args.self.now.how d) in
    let ds = c.args.self.now.documents in
    let i = c.loop-document.document-index in
    let d = c.document-item.result in
    let one = Published c.uri.result.now (Shown c.args.self.now.how d) ∷ [] in
    let below : i < length ds = rw (← c.documents-document-items.ensures) c.loop-document-test.true in
    let at : d ≡ get_or ds i d = rw (← c.documents-document-items.ensures) c.document-item.is in
    let here : told d ∷ [] ≡ one = ap (λ u. Published u (Shown c.args.self.now.how d) ∷ []) (sym c.uri.ensures) in
    let done = map told (take i ds) in
    let rest = map told (drop (i + 1) ds) in
    let whole : told_of_all c.args.self.now ≡ (done ++ one) ++ rest = map_whole told ds i d below at ∙ ap (λ l. (done ++ l) ++ rest) here in
    first_cut (sink g.W.Write.contents c.args.out.now c.show.new.out) (done ++ one) rest (told_of_all c.args.self.now) c.from_residual.result c.in_err-show.field-0.0 whole c.from_residual.ensures.1
    (second_cut g.W.Write.contents c.args.out.now c.loop-document.out c.show.new.out done one (done ++ one) c.in_err-show.field-0.0 refl c.loop-document.invariant c.in_err-show.ensures.err)

pub loop-document-preserved : goal.loop-document-preserved
loop-document-preserved g c =
    let told = λ (d : DocumentValue). Published d.uri (Shown c.args.self.now.how d) in
    let ds = c.args.self.now.documents in
    let i = c.loop-document.document-index in
    let d = c.document-item.result in
    let one = Published c.uri.result.now (Shown c.args.self.now.how d) ∷ [] in
    let below : i < length ds = rw (← c.documents-document-items.ensures) c.loop-document-test.true in
    let at : d ≡ get_or ds i d = rw (← c.documents-document-items.ensures) c.document-item.is in
    let here : told d ∷ [] ≡ one = ap (λ u. Published u (Shown c.args.self.now.how d) ∷ []) (sym c.uri.ensures) in
    let done = map told (take i ds) in
    both_sent g.W.Write.contents c.args.out.now c.loop-document.out c.show.new.out done one (map told (take (i + 1) ds)) (map_more told ds i d below at ∙ ap (λ l. done ++ l) here) c.loop-document.invariant c.in_ok-show.ensures.ok

pub loop-document-init : goal.loop-document-init
loop-document-init g c = let out = watched_of c.args.out.now in none_sent (g.W.Write.contents (device_of out)) (failures_of out)

pub returns-clause-ok : goal.returns-clause-ok
returns-clause-ok g c =
    let told = λ (d : DocumentValue). Published d.uri (Shown c.args.self.now.how d) in
    let ds = c.args.self.now.documents in
    let i = c.loop-document.document-index in
    let past : length ds ≤ i = rw (← c.documents-document-items.ensures) c.loop-document-test.false in
    subst (λ (ms : List MessageValue). AreSent (sink g.W.Write.contents c.args.out.now c.loop-document.out) ms) (ap (λ (l : List DocumentValue). map told l) (take_all i ds past)) c.loop-document.invariant
