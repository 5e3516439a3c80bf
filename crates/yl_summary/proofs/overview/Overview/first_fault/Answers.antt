use Rattle.std.proofs.Common.{arith, length-append}
use Rattle.yl_sections.proofs.KeptRows.{rows_front}
use Rattle.yl_summary.proofs.Walks.{rows_both}
use Rattle.yl_summary.proofs.Whole.{first_back, first_front}
use Rattle.yl_summary.proofs.overview.Overview.first_fault.Goals as goal

pub returns-then-self : goal.returns-then-self
returns-then-self c = λ ks ls few one two. first_front ks ls c.args.self.sound c.args.self.row (omega (arith, c.if-self.true, one.sections)) one.first

pub returns : goal.returns
returns c = λ ks ls few one two.
    first_back ks ls c.args.self.sound c.args.self.row c.args.later.sound c.args.later.row _ _ (omega (arith, c.if-self.false, one.sections)) one.first two.first
    (omega (arith, c.saturating_add.ensures, one.sections, two.first.upto.within, few.sections, length-append ks ls))
    (omega (arith, c.saturating_add-2.ensures, one.rows, two.first.rows, rows_front ls c.args.later.sound, few.rows, rows_both ks ls))
