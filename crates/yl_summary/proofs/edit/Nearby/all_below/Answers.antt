use Rattle.std.proofs.Common.{◌-◌, List, length, take, drop, subst, sym}
use Rattle.yl_summary.specs.Overview.{AreOverviews}
use Rattle.yl_summary.specs.declared.overview.Overview.{Overview}
use Rattle.yl_summary.proofs.Joined.{all_from, rest}
use Rattle.yl_summary.proofs.edit.Nearby.all_below.Goals as goal

pub returns : goal.returns
returns c = λ ks from end few near.
    let os = c.args.overviews.now in
    let i = c.args.self.stop.overviews in
    let n = c.args.self.stop.sections in
    all_from ks (take (length os - i) (drop i os)) n end c.args.self.below c.all_of.result c.and_later.result near.behind near.stop.within few (subst (λ (xs : List Overview). AreOverviews (drop n ks) xs) (sym (rest os i)) near.stop.below)
    c.all_of.ensures near.below c.and_later.ensures
