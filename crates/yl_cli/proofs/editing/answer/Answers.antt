use Rattle.std.proofs.Common.{◌≡◌, ◌∙◌, ap, subst, List, ℕ}
use Rattle.yl_session.specs.Runs.{EditValue}
use Rattle.yl_text.specs.Watched.{device_of}
use Rattle.yl_cli.specs.Reading.{IsReply, IsReplyBegun}
use Rattle.yl_cli.proofs.Driven.{on_ok_map, on_err_map, replied, reply_begun, refused, refusal_begun}
use Rattle.yl_cli.proofs.editing.answer.Goals as goal

pub returns-in-Ok-clause-ok : goal.returns-in-Ok-clause-ok
returns-in-Ok-clause-ok g c =
    let seen : List ℕ → EditValue = λ bs. record { from = c.edit.inside.from; to = c.edit.inside.to; bytes = bs } in
    let inside : seen c.as_slice.result.now ≡ c.args.edit.now = ap seen c.as_slice.ensures.value ∙ c.edit.view_is in
    on_ok_map c.show.result (λ w o text h.
    subst (λ (d : EditValue). IsReply o c.args.name.now c.args.flags text d c.edit-2.new.self (g.W.Write.contents (device_of c.args.out.now)) (g.W.Write.contents (device_of c.show.new.out))) inside
    (replied o c.args.name.now c.args.flags text (seen c.as_slice.result.now) c.args.session.now c.edit-2.new.self c.in-Ok.work c.scanned_shown.result _ _ h c.in-Ok.ensures.answer c.in-Ok.ensures.done c.scanned_shown.ensures w)) c.show.ensures.ok

pub returns-in-Ok-clause-err : goal.returns-in-Ok-clause-err
returns-in-Ok-clause-err g c =
    let seen : List ℕ → EditValue = λ bs. record { from = c.edit.inside.from; to = c.edit.inside.to; bytes = bs } in
    let inside : seen c.as_slice.result.now ≡ c.args.edit.now = ap seen c.as_slice.ensures.value ∙ c.edit.view_is in
    on_err_map c.show.result (λ w o text h.
    subst (λ (d : EditValue). IsReplyBegun o c.args.name.now c.args.flags text d (g.W.Write.contents (device_of c.args.out.now)) (g.W.Write.contents (device_of c.show.new.out))) inside
    (reply_begun o c.args.name.now c.args.flags text (seen c.as_slice.result.now) c.args.session.now c.edit-2.new.self c.in-Ok.work c.scanned_shown.result _ _ h c.in-Ok.ensures.answer c.in-Ok.ensures.done c.scanned_shown.ensures w)) c.show.ensures.err

pub returns-in-Err-clause-ok : goal.returns-in-Err-clause-ok
returns-in-Err-clause-ok g c =
    let seen : List ℕ → EditValue = λ bs. record { from = c.edit.inside.from; to = c.edit.inside.to; bytes = bs } in
    let inside : seen c.as_slice.result.now ≡ c.args.edit.now = ap seen c.as_slice.ensures.value ∙ c.edit.view_is in
    on_ok_map c.write_refused.result (λ w o text h.
    subst (λ (d : EditValue). IsReply o c.args.name.now c.args.flags text d c.edit-2.new.self (g.W.Write.contents (device_of c.args.out.now)) (g.W.Write.contents (device_of c.write_refused.new.out))) inside
    (refused o c.args.name.now c.args.flags text (seen c.as_slice.result.now) c.args.session.now c.edit-2.new.self c.in-Err.fault _ _ h c.in-Err.ensures.answer c.in-Err.ensures.refused w)) c.write_refused.ensures.ok

pub returns-in-Err-clause-err : goal.returns-in-Err-clause-err
returns-in-Err-clause-err g c =
    let seen : List ℕ → EditValue = λ bs. record { from = c.edit.inside.from; to = c.edit.inside.to; bytes = bs } in
    let inside : seen c.as_slice.result.now ≡ c.args.edit.now = ap seen c.as_slice.ensures.value ∙ c.edit.view_is in
    on_err_map c.write_refused.result (λ w o text h.
    subst (λ (d : EditValue). IsReplyBegun o c.args.name.now c.args.flags text d (g.W.Write.contents (device_of c.args.out.now)) (g.W.Write.contents (device_of c.write_refused.new.out))) inside
    (refusal_begun o c.args.name.now c.args.flags text (seen c.as_slice.result.now) c.args.session.now c.in-Err.fault _ _ h c.in-Err.ensures.answer w)) c.write_refused.ensures.err
