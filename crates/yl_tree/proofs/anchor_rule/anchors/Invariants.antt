use Rattle.std.proofs.Common.{◌≡◌, ◌++◌, ℕ, List, take, drop, reverse, map}
use Rattle.yl_text.specs.Finding.{at_each}
use Rattle.yl_events.specs.Event.{event_value}
use Rattle.yl_tree.specs.Anchors.{is_declared, anchors, anchors_at}
use Rattle.yl_tree.specs.NameSets.{has_name}
use Rattle.yl_tree.specs.Unused.{unused_flags}
use Rattle.yl_tree.proofs.anchor_rule.anchors.Given as goal

abbrev pub invariant-loop-event : goal.invariant-loop-event
invariant-loop-event g l =
    let es = map event_value l.events in
    record {
      flags : l.flags.items ≡ reverse (unused_flags (drop l.event-index es));
      declared : (q : List ℕ) → has_name l.declared q ≡ is_declared (reverse (take l.event-index es)) q;
      found : l.found.items ++ at_each (anchors_at l.options) (reverse (take l.event-index es)) (drop l.event-index es) ≡ anchors l.options es;
    }
