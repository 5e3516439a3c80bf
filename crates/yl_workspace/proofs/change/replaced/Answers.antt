use Rattle.std.proofs.Common.{ℕ, true, false, List, subst, sym, ◌∙◌, ap}
use Rattle.std.specs.Prelude.{IfOk}
use Rattle.yl_text.specs.Lines.{RowValue, IsLines}
use Rattle.yl_text.specs.Lines.{text_of}
use Rattle.yl_config.specs.declared.config.Config.{Config}
use Rattle.yl_session.specs.State.{Shows}
use Rattle.yl_workspace.specs.Changes.{Followed, Lost, followed_if}
use Rattle.yl_workspace.proofs.Texts.{within, replaced_text, replaced_can, difference_of, only_memory}
use Rattle.yl_workspace.proofs.change.replaced.Goals as goal

pub returns-in-Ok-edit-clause-text : goal.returns-in-Ok-edit-clause-text
returns-in-Ok-edit-clause-text g c =
    let ps : List RowValue = c.args.session.rows in
    let old = c.as_slice.result.now in
    let new = c.args.new.now in
    let edit = c.in-Some.edit in
    let bytes = c.as_bytes.result.now in
    let lines : IsLines old ps = subst (λ (t : List ℕ). IsLines t ps) (sym c.as_slice.ensures.value) c.in-Ok.ensures in
    let differs = difference_of old new edit.text.now bytes edit.from edit.to (sym c.as_bytes.ensures.value) c.in-Some.ensures in
    (true, ap Followed (c.in-Ok-edit.ensures.done.lines.joined ∙ replaced_text ps old new bytes edit.from edit.to lines differs))

pub returns-in-Err-clause-text : goal.returns-in-Err-clause-text
returns-in-Err-clause-text g c =
    let ps : List RowValue = c.args.session.rows in
    let old = c.as_slice.result.now in
    let new = c.args.new.now in
    let edit = c.in-Some.edit in
    let bytes = c.as_bytes.result.now in
    let lines : IsLines old ps = subst (λ (t : List ℕ). IsLines t ps) (sym c.as_slice.ensures.value) c.in-Ok.ensures in
    let differs = difference_of old new edit.text.now bytes edit.from edit.to (sym c.as_bytes.ensures.value) c.in-Some.ensures in
    let can = replaced_can ps old new bytes edit.from edit.to lines differs c.as_bytes.ensures.utf8 c.requires in
    (false, ap Lost (c.cause_of.ensures ∙ only_memory ps edit.from edit.to bytes c.in-Err.fault can c.in-Err.ensures.answer))

pub returns-in_default-between-clause-shown : goal.returns-in_default-between-clause-shown
returns-in_default-between-clause-shown g c =
    subst (λ (k : Config). IfOk c.opened_text.result (λ s. Shows k (text_of s.rows) s)) c.config.ensures c.opened_text.ensures.shown

pub returns-in_default-between-clause-text : goal.returns-in_default-between-clause-text
returns-in_default-between-clause-text g c =
    let made = c.opened_text.ensures.text in
    (made.0, made.1 ∙ ap (followed_if made.0) (within c.args.new.now c.requires))
