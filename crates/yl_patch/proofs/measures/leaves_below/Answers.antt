use Rattle.std.proofs.Common.{drop, ap, ◌∙◌}
use Rattle.yl_indentation.specs.Measures.{and_later}
use Rattle.yl_patch.proofs.Later.{alike_as}
use Rattle.yl_patch.proofs.measures.leaves_below.Goals as goal

pub returns : goal.returns
returns g c = λ h.
    let edit = c.args.edit.now in
    alike_as c.and_later-one.result _ c.and_later-other.result _ (drop edit.end edit.sections.now.items) (c.and_later-one.ensures ∙ ap (and_later edit.above.whole) c.requires.gone.whole) (c.and_later-other.ensures ∙ ap (and_later edit.above.whole) c.requires.come.whole)
    (c.is_alike_below.ensures h)
