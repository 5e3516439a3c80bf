use Rattle.yl_events.proofs.ParsedAlike.{parsed_alike}
use Rattle.yl_events.proofs.laws.symbols_are_parsed_alike.Goals as goal

pub returns : goal.returns
returns c = parsed_alike
