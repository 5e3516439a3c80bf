use Rattle.std.proofs.Common.{◌≡◌, ◌≤◌, ◌-◌, length, false}
use Rattle.yl_settings.specs.Item.{nodes_at}
use Rattle.yl_settings.specs.Nodes.{entries_of}
use Rattle.yl_config.specs.Misfits.{earliest}
use Rattle.yl_project.specs.Misfits.{beside_misfits}
use Rattle.yl_project.proofs.document.Document.note_beside.Given as goal

abbrev pub invariant-loop-entry : goal.invariant-loop-entry
invariant-loop-entry g l = record {
  within : l.rest ≤ length l.self.events.now;
  first : earliest l.reading.first (beside_misfits l.mapping l.ignores l.names (entries_of (nodes_at l.self.events.now l.rest)))
      ≡ earliest l.fn.reading.first (beside_misfits l.mapping false false (entries_of (nodes_at l.self.events.now l.inside)));
}

abbrev pub decreases-loop-entry : goal.decreases-loop-entry
decreases-loop-entry g l = length l.self.events.now - l.rest
