use Rattle.std.proofs.Common.{take}
use Rattle.yl_summary.proofs.Joined.{all_upto}
use Rattle.yl_summary.proofs.edit.Nearby.all_above.Goals as goal

pub returns : goal.returns
returns c = λ ks from end few within near.
    all_upto ks (take c.args.self.start.overviews c.args.overviews.now) c.args.self.start.sections from c.all_of.result c.args.self.above c.and_later.result near.upto within few near.start.above c.all_of.ensures near.above c.and_later.ensures
