use Rattle.std.proofs.Common.{◌≡◌, map, take}
use Rattle.yl_events.specs.Event.{event_value}
use Rattle.yl_tree.specs.References.{reference_value}
use Rattle.yl_tree.proofs.anchor_finder.events_of.Given as goal

abbrev pub invariant-loop-reference : goal.invariant-loop-reference
invariant-loop-reference g l = map event_value l.events.items ≡ map reference_value (take l.reference-index l.references)
