use Rattle.yl_summary.proofs.Whole.{whole_after}
use Rattle.yl_summary.proofs.edit.SectionEdit.after.Goals as goal

pub returns : goal.returns
returns g c =
    let e = c.args.self.now in
    let h = c.requires in
    whole_after e.sections.now.items e.kept.now e.from e.end e.above e.come e.below _ _ h.few_then h.above h.come h.below c.and_later.ensures c.and_later-2.ensures
