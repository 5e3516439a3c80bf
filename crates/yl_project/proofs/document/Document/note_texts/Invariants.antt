use Rattle.std.proofs.Common.{◌≡◌, ◌≤◌, ◌-◌, length}
use Rattle.yl_settings.specs.Item.{nodes_at}
use Rattle.yl_config.specs.Misfits.{earliest}
use Rattle.yl_project.specs.Misfits.{texts_misfits}
use Rattle.yl_project.proofs.document.Document.note_texts.Given as goal

abbrev pub invariant-loop-text : goal.invariant-loop-text
invariant-loop-text g l = record {
  within : l.rest ≤ length l.self.events.now;
  first : earliest l.reading.first (texts_misfits l.self.rows.now l.place.col l.place (nodes_at l.self.events.now l.rest))
      ≡ earliest l.fn.reading.first (texts_misfits l.self.rows.now l.place.col l.place (nodes_at l.self.events.now l.inside));
}

abbrev pub decreases-loop-text : goal.decreases-loop-text
decreases-loop-text g l = length l.self.events.now - l.rest
