use Rattle.yl_summary.proofs.Joined.{near_put}
use Rattle.yl_summary.proofs.edit.SectionEdit.between.Goals as goal

pub returns : goal.returns
returns g c =
    let e = c.args.self.now in
    let near = c.requires.near in
    let range = c.requires.range in
    near_put e.sections.now.items e.kept.now e.overviews.now e.from e.end range.ordered range.within e.near.start.sections e.near.stop.sections e.near.above e.come e.near.below c.and_later.result c.and_later-2.result near.upto near.behind near.stop.within c.requires.few_then near.above c.requires.come near.below
    c.and_later.ensures c.and_later-2.ensures
