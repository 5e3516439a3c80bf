use Rattle.std.proofs.Common.{◌++◌, List, take, ap, ◌∙◌, arith}
use Rattle.yl_summary.specs.declared.overview.Overview.{Overview}
use Rattle.yl_summary.proofs.Joined.{overviews_put, front_put, rest}
use Rattle.yl_summary.specs.Edit.{sections_upto}
use Rattle.yl_summary.proofs.edit.SectionEdit.overviews_after.Goals as goal

pub push_near-requires-clause-above : goal.push_near-requires-clause-above
push_near-requires-clause-above g c =
    let e = c.args.self.now in
    let near = c.requires.near in
    let range = c.requires.range in
    front_put e.sections.now.items e.kept.now e.overviews.now e.from e.end range.ordered range.within e.near.start.sections e.near.start.overviews c.push_copies.new.overviews.items near.start near.upto
    (c.in_ok-push_copies.ensures ∙ ap (λ (xs : List Overview). xs ++ take e.near.start.overviews e.overviews.now) c.in_ok-after.ensures.items)

pub returns : goal.returns
returns g c =
    let e = c.args.self.now in
    let near = c.requires.near in
    let range = c.requires.range in
    let put = c.push_near.new.after.items in
    overviews_put e.sections.now.items e.kept.now e.overviews.now e.from e.end range.ordered range.within e.near.start.sections e.near.start.overviews e.near.stop.sections e.near.stop.overviews (sections_upto e) put c.push_copies-2.new.overviews.items near.start near.stop near.upto near.behind (omega (arith, near.behind))
    (λ _. c.in_ok-push_near.ensures) (c.in_ok-push_copies-2.ensures ∙ ap (λ (xs : List Overview). put ++ xs) (rest e.overviews.now e.near.stop.overviews))
