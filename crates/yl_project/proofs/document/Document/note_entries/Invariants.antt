use Rattle.std.proofs.Common.{◌≡◌, ◌≤◌, ◌-◌, length}
use Rattle.std.specs.List.{flat_map}
use Rattle.yl_settings.specs.Item.{nodes_at}
use Rattle.yl_settings.specs.Nodes.{entries_of}
use Rattle.yl_config.specs.Misfits.{earliest}
use Rattle.yl_project.specs.Misfits.{root_entry_misfits}
use Rattle.yl_project.proofs.document.Document.note_entries.Given as goal

abbrev pub invariant-loop-entry : goal.invariant-loop-entry
invariant-loop-entry g l = record {
  within : l.rest ≤ length l.self.events.now;
  first : earliest l.reading.first (flat_map (root_entry_misfits l.self.rows.now l.are_patterns l.mapping) (entries_of (nodes_at l.self.events.now l.rest)))
      ≡ earliest l.fn.reading.first (flat_map (root_entry_misfits l.self.rows.now l.are_patterns l.mapping) (entries_of (nodes_at l.self.events.now l.inside)));
}

abbrev pub decreases-loop-entry : goal.decreases-loop-entry
decreases-loop-entry g l = length l.self.events.now - l.rest
