use Rattle.std.proofs.Common.{◌≡◌, ℕ, List, drop, reverse, map}
use Rattle.yl_events.specs.Event.{event_value}
use Rattle.yl_tree.specs.Anchors.{is_used}
use Rattle.yl_tree.specs.NameSets.{has_name}
use Rattle.yl_tree.specs.Unused.{unused_flags}
use Rattle.yl_tree.proofs.anchor_rule.unused_flags.Given as goal

abbrev pub invariant-loop-i : goal.invariant-loop-i
invariant-loop-i g l = record {
  flags : l.flags.items ≡ reverse (unused_flags (drop l.i (map event_value l.events)));
  used : (q : List ℕ) → has_name l.used q ≡ is_used (drop l.i (map event_value l.events)) q;
}
