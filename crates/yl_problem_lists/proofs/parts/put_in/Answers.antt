use Rattle.std.proofs.Common.{ℕ, Bool, cond, sym, ap, ◌∙◌}
use Rattle.std.specs.Prelude.{insert, is_ok}
use Rattle.std.specs.List.{prefix_len}
use Rattle.yl_report.specs.Report.{ProblemValue}
use Rattle.yl_problem_lists.specs.Order.{comes_before}
use Rattle.yl_problem_lists.proofs.Lasts.{put_in_at}
use Rattle.yl_problem_lists.proofs.parts.put_in.Goals as goal

pub returns : goal.returns
returns g c =
    let p = c.args.problem in
    let ps = c.args.problems.now.items in
    let place = c.count_before-place.ensures.count ∙ ap (prefix_len (λ (q : ProblemValue). comes_before q p)) c.deref.ensures.value in
    c.insert.ensures.items
    ∙ (ap (λ (b : Bool). cond b (insert ps c.count_before-place.result p) ps) (ap is_ok c.unwrap.ensures)
    ∙ (ap (λ (k : ℕ). insert ps k p) place ∙ sym (put_in_at p ps)))
