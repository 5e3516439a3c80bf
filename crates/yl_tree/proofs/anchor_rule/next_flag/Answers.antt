use Rattle.std.proofs.Common.{◌≡◌, ◌∙◌, length, None, rules}
use Rattle.yl_tree.proofs.Unused.{last_flag}
use Rattle.yl_tree.proofs.anchor_rule.next_flag.Goals as goal

pub returns : goal.returns
returns g c = λ flag later all.
    let none : c.pop.result ≡ None → length c.args.flags.now.items ≡ 0 = λ e. let empty = rw e at c.pop.ensures.cases in search (rules, empty) in
    let both = last_flag c.args.flags.now.items c.pop.new.self.items later flag c.pop.result none c.pop.ensures.items all in
    (c.unwrap_or.ensures ∙ both.0, both.1)
