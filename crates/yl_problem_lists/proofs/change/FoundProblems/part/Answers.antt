use Rattle.std.proofs.Common.{sym, ◌∙◌, ap}
use Rattle.std.specs.Prelude.{not}
use Rattle.std.specs.List.{filter}
use Rattle.std.proofs.lemmas.List.{map-id}
use Rattle.std.proofs.lemmas.Iterator.Consumers.{YieldsList-end}
use Rattle.std.proofs.lemmas.Iterator.Adapters.{YieldsList-from_vec}
use Rattle.yl_problem_lists.specs.Showing.{is_shown_by}
use Rattle.yl_problem_lists.proofs.change.FoundProblems.part.Goals as goal

pub returns : goal.returns
returns g c =
    let given = c.into_iter-problem-iterator.ensures.into_iter_gives in
    let seen = YieldsList-end (YieldsList-from_vec {s = c.into_iter-problem-iterator.result} c.args.problems.items given.0 (given.1 ∙ c.args.problems.ok.0))
    c.loop-problem.yielded c.loop-problem.problem-iterator c.loop-problem.yielded_by c.next.result c.next.new.self c.in-None.is c.next.ensures.steps in
    let all = sym (map-id c.loop-problem.yielded) ∙ seen.0 in
    let shown = c.loop-problem.invariant.shown ∙ ap (filter (is_shown_by c.args.showing.now)) all in
    let suppressed = c.loop-problem.invariant.suppressed ∙ ap (filter (λ p. not (is_shown_by c.args.showing.now p))) all in
    λ i. record { shown = shown i; suppressed = suppressed i }
