use Rattle.std.proofs.Common.{true, sym, ◌∙◌, ap}
use Rattle.yl_workspace.specs.Changes.{Followed}
use Rattle.yl_workspace.specs.Documents.{text_judged}
use Rattle.yl_workspace.specs.Shown.{text_value}
use Rattle.yl_workspace.proofs.change.judged_by.Goals as goal

pub returns-in-Ok-open-clause-text : goal.returns-in-Ok-open-clause-text
returns-in-Ok-open-clause-text g c = (
  true,
  ap Followed (c.in-Ok-open.ensures.shown.lines.joined ∙ c.as_slice.ensures.value ∙ sym c.in-Ok.ensures.joined)
      ∙ sym (ap (λ t. text_judged true (text_value t)) c.in_ok-session.was),
)
