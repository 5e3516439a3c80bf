use Rattle.std.proofs.Common.{drop, map}
use Rattle.yl_events.specs.Event.{event_value}
use Rattle.yl_tree.specs.Finders.{FindsDuplicates}
use Rattle.yl_tree.specs.KeyRules.{key_duplicates}
use Rattle.yl_tree.proofs.duplicates.key_duplicates.Given as goal

abbrev pub invariant-loop-event : goal.invariant-loop-event
invariant-loop-event g l =
    let es = map event_value l.events in
    FindsDuplicates l.finder (drop l.event-index es) (key_duplicates l.options es)
