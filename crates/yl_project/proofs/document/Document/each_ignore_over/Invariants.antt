use Rattle.std.proofs.Common.{◌≡◌, map}
use Rattle.yl_settings.specs.Item.{nodes_at}
use Rattle.yl_settings.specs.Nodes.{entries_of}
use Rattle.yl_project.specs.Said.{ignore_over}
use Rattle.yl_project.proofs.document.Document.each_ignore_over.Given as goal

abbrev pub invariant-loop-rule : goal.invariant-loop-rule
invariant-loop-rule g l = l.rules.items ≡ map (ignore_over l.self.rows.now (entries_of (nodes_at l.self.events.now l.inside))) l.yielded
