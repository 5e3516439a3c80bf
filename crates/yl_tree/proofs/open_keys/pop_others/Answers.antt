use Rattle.std.proofs.Common.{sym, ◌∙◌}
use Rattle.yl_tree.proofs.OpenKeys.{popped_none, popped_one}
use Rattle.yl_tree.proofs.open_keys.pop_others.Goals as goal

pub returns-in-Some : goal.returns-in-Some
returns-in-Some g c = λ n q.
    popped_one q c.args.outer.now.items c.pop.new.self.items c.in-Some.others n c.in-Some.ensures.items

pub returns-in-None : goal.returns-in-None
returns-in-None g c = λ n q.
    popped_none q c.args.outer.now.items c.pop.new.self.items n (sym c.args.outer.now.ok.0 ∙ c.in-None.ensures.cases.0) (sym c.pop.new.self.ok.0 ∙ c.in-None.ensures.cases.1)
