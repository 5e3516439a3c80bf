use Rattle.std.proofs.Common.{◌≡◌, ◌≤◌, ◌-◌, [], length, map, string_bytes}
use Rattle.yl_settings.specs.Item.{nodes_at}
use Rattle.yl_project.specs.Named.{with_names}
use Rattle.yl_project.proofs.named.names_in.Given as goal

abbrev pub invariant-loop-name : goal.invariant-loop-name
invariant-loop-name g l = record {
  within : l.rest ≤ length l.events;
  same : with_names (map string_bytes l.names.items) (nodes_at l.events l.rest) ≡ with_names [] (nodes_at l.events l.inside);
}

abbrev pub decreases-loop-name : goal.decreases-loop-name
decreases-loop-name g l = length l.events - l.rest
