use Rattle.std.proofs.Common.{[], ◌∷◌, arith, ap, refl, ◌∙◌, length-append}
use Rattle.yl_indentation.specs.Measures.{and_later}
use Rattle.yl_summary.proofs.Walks.{rows_both}
use Rattle.yl_summary.proofs.Whole.{plain_more}
use Rattle.yl_summary.proofs.overview.Overview.count.Goals as goal

pub returns : goal.returns
returns g c = λ ks few known.
    let k = c.args.kept.now in
    let quiet = c.is_quiet.ensures in
    plain_more ks k c.args.self.now _ known (omega (arith, c.if-self.false)) (quiet.fault c.if-not-is_quiet.false) (quiet.comments c.if-not-is_quiet.false) (omega (arith, c.saturating_add-self.ensures, known.sections, few.sections, length-append ks (k ∷ [])))
    (omega (arith, c.saturating_add-self-2.ensures, c.rows.ensures, known.rows, few.rows, rows_both ks (k ∷ []))) refl refl (c.and_later-self.ensures ∙ ap (and_later c.args.self.now.whole) c.measure.ensures) refl
