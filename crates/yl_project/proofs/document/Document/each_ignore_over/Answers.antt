use Rattle.std.proofs.Common.{map, sym, ◌∙◌, ap}
use Rattle.std.proofs.lemmas.List.{map-id}
use Rattle.std.proofs.lemmas.Iterator.Consumers.{YieldsList-end}
use Rattle.std.proofs.lemmas.Iterator.Adapters.{YieldsList-from_vec}
use Rattle.yl_settings.specs.Item.{nodes_at}
use Rattle.yl_settings.specs.Nodes.{entries_of}
use Rattle.yl_project.specs.Said.{ignore_over}
use Rattle.yl_project.proofs.document.Document.each_ignore_over.Goals as goal

-- the loop has seen all of the list
pub returns : goal.returns
returns g c =
    let f = ignore_over c.args.self.now.rows.now (entries_of (nodes_at c.args.self.now.events.now c.args.inside)) in
    let given = c.into_iter-rule-iterator.ensures.into_iter_gives in
    let seen = YieldsList-end (YieldsList-from_vec {s = c.into_iter-rule-iterator.result} c.args.base.items given.0 (given.1 ∙ c.args.base.ok.0))
    c.loop-rule.yielded c.loop-rule.rule-iterator c.loop-rule.yielded_by c.next.result c.next.new.self c.in-None.is c.next.ensures.steps in
    c.loop-rule.invariant ∙ ap (map f) (sym (map-id c.loop-rule.yielded) ∙ seen.0)
