use Rattle.yl_pieces.proofs.EventsBelow.{events_below, start_events_below}
use Rattle.yl_pieces.proofs.events.events_are_below.Goals as goal

pub returns-clause-rows : goal.returns-clause-rows
returns-clause-rows c = events_below

pub returns-clause-start : goal.returns-clause-start
returns-clause-start c = start_events_below
