use Rattle.yl_scan.proofs.States.{tells_state}
use Rattle.yl_scan.proofs.state.LineStatePartialEq.eq.Goals as goal

pub returns : goal.returns
returns g c = tells_state c.args.self.now c.args.other.now c.is_same.result c.is_same.ensures
