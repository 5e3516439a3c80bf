use Rattle.std.proofs.Common.{◌≡◌, ◌+◌, ◌∷◌, [], ◌++◌, List, ℕ, ◌<◌, length, get_or, take, ap, subst, sym, refl, ◌∙◌}
use Rattle.std.specs.Prelude.{OnOk}
use Rattle.std.proofs.lemmas.List.{take_more}
use Rattle.yl_text.specs.Edit.{edited_text}
use Rattle.yl_session.specs.State.{Shows}
use Rattle.yl_session.specs.Runs.{EditValue, IsAnswer}
use Rattle.yl_session.proofs.Goes.{Replayed-push}
use Rattle.yl_session.proofs.replaying.replay.Goals as goal

-- the first edits and the next one
taken : (es : List EditValue) (i : ℕ) (e : EditValue) → i < length es → e ≡ get_or es i e → take (i + 1) es ≡ take i es ++ e ∷ []
taken es i e l is = take_more es i e l ∙ ap (λ (x : EditValue). take i es ++ x ∷ []) (sym is)

pub loop-edit-preserved : goal.loop-edit-preserved
loop-edit-preserved g c =
    let es = c.args.edits.now in
    let i = c.loop-edit.edit-index in
    let e = c.edit-item.result in
    let s = c.loop-edit.session in
    let r = c.edit-answer.result in
    let u = c.edit-answer.new.self in
    let seen : List ℕ → EditValue = λ bs. record { from = c.edit.inside.from; to = c.edit.inside.to; bytes = bs } in
    let inside : seen c.as_slice.result.now ≡ e = ap seen c.as_slice.ensures.value ∙ c.edit.view_is in
    let P : EditValue → Type 0 = λ d. IsAnswer s.rows d.from d.to d.bytes r in
    let Q : EditValue → Type 0 = λ d. OnOk r (Shows s.config (edited_text s.rows d.from d.to d.bytes) u) in
    let run = Replayed-push c.args.config c.args.bytes.now (take i es) c.loop-edit.answers.items s e r u c.loop-edit.invariant.run (subst P inside c.edit-answer.ensures.answer) (subst Q inside c.edit-answer.ensures.done) c.edit-answer.ensures.refused in
    let more = taken es i e c.loop-edit-test.true c.edit-item.is in
    record {
      room = rw c.push_reserved.ensures.capacity c.loop-edit.invariant.room;
      len = rw (c.push_reserved.ensures.len, c.loop-edit.invariant.len) refl;
      run = rw (more, c.push_reserved.ensures.items) run;
    }
