use Rattle.std.proofs.Common.{◌≡◌, ◌≤◌, ◌-◌, length}
use Rattle.std.specs.List.{flat_map}
use Rattle.yl_settings.specs.Item.{nodes_at}
use Rattle.yl_config.specs.Config.{config_settings}
use Rattle.yl_config.specs.Misfits.{earliest, option_misfits}
use Rattle.yl_settings.specs.Nodes.{entries_of}
use Rattle.yl_config.specs.Settings.{with_options}
use Rattle.yl_config.proofs.reading.Reading.read_options.Given as goal

abbrev pub invariant-loop-entry : goal.invariant-loop-entry
invariant-loop-entry l = record {
  within : l.rest ≤ length l.events;
  first : earliest l.self.first (flat_map (option_misfits l.rule l.mapping) (entries_of (nodes_at l.events l.rest)))
      ≡ earliest l.fn.self.first (flat_map (option_misfits l.rule l.mapping) (entries_of (nodes_at l.events l.inside)));
  said : with_options l.rule (entries_of (nodes_at l.events l.rest)) (config_settings l.self.config)
      ≡ with_options l.rule (entries_of (nodes_at l.events l.inside)) (config_settings l.fn.self.config);
}

abbrev pub decreases-loop-entry : goal.decreases-loop-entry
decreases-loop-entry l = length l.events - l.rest
