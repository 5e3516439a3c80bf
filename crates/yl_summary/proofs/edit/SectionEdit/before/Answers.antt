use Rattle.yl_summary.proofs.Whole.{whole_before}
use Rattle.yl_summary.proofs.edit.SectionEdit.before.Goals as goal

pub returns : goal.returns
returns g c =
    let e = c.args.self.now in
    let h = c.requires in
    whole_before e.sections.now.items e.from e.end e.above e.gone e.below _ _ h.range.ordered h.range.within h.few h.above h.gone h.below c.and_later.ensures c.and_later-2.ensures
