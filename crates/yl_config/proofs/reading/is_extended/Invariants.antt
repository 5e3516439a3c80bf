use Rattle.std.proofs.Common.{◌≡◌, ◌≤◌, ◌-◌, length}
use Rattle.std.specs.List.{list_any}
use Rattle.yl_settings.specs.Item.{nodes_at}
use Rattle.yl_settings.specs.Nodes.{entries_of}
use Rattle.yl_config.specs.Settings.{is_extends}
use Rattle.yl_config.proofs.reading.is_extended.Given as goal

abbrev pub invariant-loop-entry : goal.invariant-loop-entry
invariant-loop-entry l = record {
  within : l.rest ≤ length l.events;
  made : list_any is_extends (entries_of (nodes_at l.events l.rest)) ≡ list_any is_extends (entries_of (nodes_at l.events l.inside));
}

abbrev pub decreases-loop-entry : goal.decreases-loop-entry
decreases-loop-entry l = length l.events - l.rest
