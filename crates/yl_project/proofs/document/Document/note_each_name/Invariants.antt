use Rattle.std.proofs.Common.{◌≡◌, ◌≤◌, ◌-◌, length}
use Rattle.yl_settings.specs.Item.{nodes_at}
use Rattle.yl_config.specs.Misfits.{earliest}
use Rattle.yl_project.specs.Misfits.{each_name_misfits}
use Rattle.yl_project.proofs.document.Document.note_each_name.Given as goal

abbrev pub invariant-loop-name : goal.invariant-loop-name
invariant-loop-name g l = record {
  within : l.rest ≤ length l.self.events.now;
  first : earliest l.reading.first (each_name_misfits l.key (nodes_at l.self.events.now l.rest))
      ≡ earliest l.fn.reading.first (each_name_misfits l.key (nodes_at l.self.events.now l.inside));
}

abbrev pub decreases-loop-name : goal.decreases-loop-name
decreases-loop-name g l = length l.self.events.now - l.rest
