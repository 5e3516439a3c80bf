use Rattle.std.proofs.Common.{List, ◌++◌, ◌≤◌, length, arith, subst}
use Rattle.std.proofs.lemmas.List.{drop_all}
use Rattle.yl_text.specs.Finding.{FindingValue}
use Rattle.yl_tree.specs.Tree.{tree_findings}
use Rattle.yl_tree.specs.TreeRules.{Finds}
use Rattle.yl_piece_names.specs.declared.opening.Opening.{Opening}
use Rattle.yl_piece_names.specs.OpeningEvents.{opening_events}
use Rattle.yl_piece_names.proofs.OpeningEvents.{found_alone}
use Rattle.yl_piece_names.proofs.run_rules.rules_for_run.Goals as goal

pub returns : goal.returns
returns g c = λ es none.
    let past : length c.args.openings.now ≤ c.loop-opening.opening-index = omega arith in
    subst (λ (fs : List FindingValue). Finds c.loop-opening.rules es fs) (found_alone c.args.openings.now es none c.args.options.now)
    (subst (λ (xs : List Opening). Finds c.loop-opening.rules (opening_events xs ++ es) (tree_findings c.args.options.now (opening_events c.args.openings.now ++ es)))
    (drop_all c.loop-opening.opening-index c.args.openings.now past) (c.loop-opening.invariant es))
