use Rattle.std.proofs.Common.{◌≡◌, ◌+◌, ◌<◌, ◌≤◌, map, drop}
use Rattle.yl_events.specs.Event.{event_value}
use Rattle.yl_settings.specs.Nodes.{levels_from, outer}
use Rattle.yl_settings.proofs.node.behind_collection.Given as goal

-- so many collections more are open than before the first event
abbrev pub invariant-loop-i : goal.invariant-loop-i
invariant-loop-i l = record {
  some : 0 < l.depth;
  few : l.depth ≤ l.i + 1;
  levels : drop l.depth (levels_from (map event_value (drop l.i l.events))) ≡ outer (levels_from (map event_value (drop l.at l.events)));
}
