use Rattle.std.proofs.Common.{arith, length-append}
use Rattle.yl_summary.proofs.Walks.{rows_both}
use Rattle.yl_summary.proofs.Whole.{overview_both}
use Rattle.yl_summary.proofs.overview.Overview.and_later.Goals as goal

pub returns : goal.returns
returns c = λ ks ls few one two.
    overview_both ks ls c.args.self c.args.later _ one two (omega (arith, c.saturating_add.ensures, one.sections, two.sections, few.sections, length-append ks ls))
    (omega (arith, c.saturating_add-2.ensures, one.rows, two.rows, few.rows, rows_both ks ls)) (c.first_fault-sound.ensures ks ls few one two) c.and_later.ensures (c.silencing_with.ensures ks ls few one two)
