use Rattle.yl_text.proofs.Printable.{lanes_tell}
use Rattle.yl_text.proofs.special.special_lane.Goals as goal

pub returns-then-special-eq0 : goal.returns-then-special-eq0
returns-then-special-eq0 c = (lanes_tell c.args.bytes.now c.args.at c.special_lanes-special.result c.requires c.special_lanes-special.ensures).0 c.if-special-eq0.true

pub returns-else-special-eq0 : goal.returns-else-special-eq0
returns-else-special-eq0 c = (lanes_tell c.args.bytes.now c.args.at c.special_lanes-special.result c.requires c.special_lanes-special.ensures).1 c.if-special-eq0.false
