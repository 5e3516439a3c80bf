use Rattle.yl_tree.proofs.tree_rules.duplicate_finder.Goals as goal

pub returns : goal.returns
returns g c = λ es. rw c.in_ok-options.was (c.new.ensures es)
