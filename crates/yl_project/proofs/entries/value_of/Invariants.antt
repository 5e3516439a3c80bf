use Rattle.std.proofs.Common.{◌≡◌, ◌≤◌, ◌-◌, length, None, IfSome}
use Rattle.std.specs.Option.{option_map}
use Rattle.yl_settings.specs.Item.{item_value, nodes_at}
use Rattle.yl_settings.specs.Nodes.{entries_of}
use Rattle.yl_project.specs.Said.{last_value}
use Rattle.yl_project.proofs.entries.value_of.Given as goal

abbrev pub invariant-loop-entry : goal.invariant-loop-entry
invariant-loop-entry l = record {
  within : l.rest ≤ length l.events;
  inside : IfSome l.value (λ item. item.inside ≤ length l.events);
  last : last_value l.name (option_map (item_value l.events) l.value) (entries_of (nodes_at l.events l.rest))
      ≡ last_value l.name None (entries_of (nodes_at l.events l.inside));
}

abbrev pub decreases-loop-entry : goal.decreases-loop-entry
decreases-loop-entry l = length l.events - l.rest
