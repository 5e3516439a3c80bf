use Rattle.std.proofs.Common.{◌≡◌, ◌≤◌, ◌-◌, length}
use Rattle.yl_settings.specs.Item.{nodes_at}
use Rattle.yl_project.specs.Texts.{with_texts}
use Rattle.yl_project.proofs.document.Document.add_texts.Given as goal

abbrev pub invariant-loop-text : goal.invariant-loop-text
invariant-loop-text g l = record {
  within : l.rest ≤ length l.self.events.now;
  same : with_texts l.self.rows.now l.column (nodes_at l.self.events.now l.rest) l.patterns
      ≡ with_texts l.self.rows.now l.column (nodes_at l.self.events.now l.inside) l.fn.patterns;
}

abbrev pub decreases-loop-text : goal.decreases-loop-text
decreases-loop-text g l = length l.self.events.now - l.rest
