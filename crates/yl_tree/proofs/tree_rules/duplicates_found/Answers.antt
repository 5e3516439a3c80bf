use Rattle.yl_tree.proofs.tree_rules.duplicates_found.Goals as goal

pub returns-in-Some : goal.returns-in-Some
returns-in-Some g c = λ all h. c.finish.ensures all (rw c.in-Some.is at h)
