use Rattle.yl_pieces.proofs.EventsOfSection.{events_of_section}
use Rattle.yl_pieces.proofs.events.events_of_section.Goals as goal

pub returns : goal.returns
returns c = events_of_section
