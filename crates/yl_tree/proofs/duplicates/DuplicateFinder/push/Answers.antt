use Rattle.yl_tree.proofs.Finders.{walk_more}
use Rattle.yl_tree.proofs.duplicates.DuplicateFinder.push.Goals as goal

pub returns : goal.returns
returns g c = λ es all h.
    walk_more _ _ _ _ _ _ _ _ _ _ h (c.in_ok-push_duplicate.ensures h.before es h.behind)
    (c.in_ok-step.ensures h.before h.behind)
