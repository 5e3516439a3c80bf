use Rattle.std.proofs.Common.{◌∙◌, ap, sym, true}
use Rattle.yl_workspace.specs.Changes.{followed_if}
use Rattle.yl_workspace.proofs.Texts.{too_large, within}
use Rattle.yl_workspace.proofs.change.renewed.Goals as goal

pub returns-then-new-gt-MAX_BYTES-clause-text : goal.returns-then-new-gt-MAX_BYTES-clause-text
returns-then-new-gt-MAX_BYTES-clause-text g c = (true, sym (ap (followed_if true) (too_large c.args.new.now c.if-new-gt-MAX_BYTES.true)))

pub returns-in-Ok-clause-text : goal.returns-in-Ok-clause-text
returns-in-Ok-clause-text g c =
    let made = c.replaced.ensures.text in
    (made.0, made.1 ∙ sym (ap (followed_if made.0) (within c.args.new.now c.if-new-gt-MAX_BYTES.false)))
