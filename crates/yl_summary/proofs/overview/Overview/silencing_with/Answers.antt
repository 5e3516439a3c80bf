use Rattle.std.proofs.Common.{drop, arith, refl, subst, length-append}
use Rattle.yl_sections.proofs.KeptRows.{rows_front}
use Rattle.yl_summary.proofs.Walks.{rows_both}
use Rattle.yl_summary.proofs.Whole.{Silent, both_speak, silent_before, silent_later}
use Rattle.yl_summary.proofs.overview.Overview.silencing_with.Goals as goal

pub returns-then-later-eq0 : goal.returns-then-later-eq0
returns-then-later-eq0 c = λ ks ls few one two. silent_later ks ls c.args.self.silencing one.silencing (subst (λ n. Silent (drop n ls)) c.if-later-eq0.true two.silencing.behind)

pub returns-then-self-eq0 : goal.returns-then-self-eq0
returns-then-self-eq0 c = λ ks ls few one two.
    silent_before ks ls c.args.later.silencing _ (subst (λ n. Silent (drop n ks)) c.if-self-eq0.true one.silencing.behind) two.silencing
    (omega (arith, c.saturating_add.ensures, one.sections, two.silencing.start.within, few.sections, length-append ks ls))
    (omega (arith, c.saturating_add-then-self-eq0.ensures, one.rows, two.silencing.start.rows, rows_front ls c.args.later.silencing.from, few.rows, rows_both ks ls))
    (omega (arith, c.saturating_add-end.ensures, one.sections, few.sections, length-append ks ls, two.silencing.within))

pub returns : goal.returns
returns c = λ ks ls few one two.
    both_speak ks ls c.args.self.silencing c.args.later.silencing _ one.silencing two.silencing refl refl (omega (arith, c.saturating_add-end.ensures, one.sections, few.sections, length-append ks ls, two.silencing.within))
