use Rattle.std.proofs.Common.{◌+◌, ◌<◌, ◌≤◌, length, drop, map, arith}
use Rattle.yl_events.specs.Event.{event_value}
use Rattle.yl_tree.proofs.AtEach.{no_event, drop_here, none_left}
use Rattle.yl_tree.proofs.ordering.key_ordering.Goals as goal

pub loop-event-preserved : goal.loop-event-preserved
loop-event-preserved g c =
    let es = c.args.events.now in
    let i = c.loop-event.event-index in
    let inside : i < length es = omega arith in
    c.in_ok-push.ensures (drop (i + 1) (map event_value es)) _
    (rw (drop_here event_value es i no_event inside) at c.loop-event.invariant)

pub returns : goal.returns
returns g c =
    let es = c.args.events.now in
    let past : length es ≤ c.loop-event.event-index = omega arith in
    c.finish.ensures _ (rw (none_left event_value es c.loop-event.event-index past) at c.loop-event.invariant)
