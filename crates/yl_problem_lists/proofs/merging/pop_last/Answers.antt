use Rattle.std.proofs.Common.{List, sym, ap, ◌∙◌}
use Rattle.yl_report.specs.Report.{ProblemValue}
use Rattle.yl_problem_lists.specs.Later.{ends_later}
use Rattle.yl_problem_lists.proofs.Lasts.{pop_shown, pop_suppressed}
use Rattle.yl_problem_lists.proofs.merging.pop_last.Goals as goal

pub returns-then-ends_later-clause-popped : goal.returns-then-ends_later-clause-popped
returns-then-ends_later-clause-popped g c =
    let ss = c.args.shown.now.items in
    let us = c.args.suppressed.now.items in
    let lists = ap (λ (ps : List ProblemValue). ends_later ps c.deref-2.result.now) c.deref.ensures.value ∙ ap (λ (ps : List ProblemValue). ends_later ss ps) c.deref-2.ensures.value in
    pop_shown c.args.line ss us c.pop_behind.new.problems.items c.pop_behind.result c.requires.shown c.requires.suppressed (sym lists ∙ (sym c.ends_later.ensures ∙ c.if-ends_later.true)) c.pop_behind.ensures.popped

pub returns-else-ends_later-clause-popped : goal.returns-else-ends_later-clause-popped
returns-else-ends_later-clause-popped g c =
    let ss = c.args.shown.now.items in
    let us = c.args.suppressed.now.items in
    let lists = ap (λ (ps : List ProblemValue). ends_later ps c.deref-2.result.now) c.deref.ensures.value ∙ ap (λ (ps : List ProblemValue). ends_later ss ps) c.deref-2.ensures.value in
    pop_suppressed c.args.line ss us c.pop_behind-else-ends_later.new.problems.items c.pop_behind-else-ends_later.result c.requires.shown c.requires.suppressed (sym lists ∙ (sym c.ends_later.ensures ∙ c.if-ends_later.false)) c.pop_behind-else-ends_later.ensures.popped
