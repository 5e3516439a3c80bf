use Rattle.std.proofs.Common.{◌≡◌, ◌∙◌, ap, map}
use Rattle.yl_lint.proofs.lint.report_of_read.Goals as goal

pub returns : goal.returns
returns g c = λ all h.
    let kept : map (λ k. k.now) c.deref-2.result.now ≡ all = ap (map (λ k. k.now)) c.deref-2.ensures.value ∙ (c.in_ok-lent.ensures.items ∙ (c.deref.ensures.value ∙ c.in_ok-kept.ensures all h)) in
    rw (c.in_ok-found.ensures, c.end-end.ensures, kept) at c.report_of_kept.ensures
