use Rattle.yl_events.proofs.ToldBehind.{symbols_behind}
use Rattle.yl_events.proofs.laws.told_behind.Goals as goal

pub returns : goal.returns
returns c = λ p count before out ws. symbols_behind before p count out ws
