use Rattle.std.proofs.Common.{sym}
use Rattle.yl_session.proofs.planning.make_room.Goals as goal

pub returns-clause-room : goal.returns-clause-room
returns-clause-room g c = rw (sym c.len.ensures) c.in_ok-make_room.ensures.room

pub returns-clause-kept_room : goal.returns-clause-kept_room
returns-clause-kept_room g c = rw (sym c.len-2.ensures) c.in_ok-make_room-2.ensures.room
