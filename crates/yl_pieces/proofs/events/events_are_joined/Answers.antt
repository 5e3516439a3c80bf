use Rattle.yl_pieces.proofs.EventsJoined.{events_joined}
use Rattle.yl_pieces.proofs.events.events_are_joined.Goals as goal

pub returns : goal.returns
returns c = events_joined
