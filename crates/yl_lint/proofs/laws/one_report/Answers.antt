use Rattle.yl_lint.proofs.Reported.{computed_report, has_report, one_report}
use Rattle.yl_lint.proofs.laws.one_report.Goals as goal

pub returns : goal.returns
returns c = record { has = has_report c.one_kept.ensures.computed; one = one_report c.one_kept.ensures.one; computed = computed_report c.one_kept.ensures.computed }
