use Rattle.std.proofs.Common.{drop, map}
use Rattle.yl_events.specs.Event.{event_value}
use Rattle.yl_tree.specs.Finders.{FindsMisplaced}
use Rattle.yl_tree.specs.KeyRules.{key_ordering}
use Rattle.yl_tree.proofs.ordering.key_ordering.Given as goal

abbrev pub invariant-loop-event : goal.invariant-loop-event
invariant-loop-event g l =
    let es = map event_value l.events in
    FindsMisplaced l.finder (drop l.event-index es) (key_ordering es)
