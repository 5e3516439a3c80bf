use Rattle.std.proofs.Common.{◌-◌, List, ◌∷◌, ◌++◌, length, take, drop, arith, subst, sym}
use Rattle.yl_sections.specs.Kept.{KeptValue}
use Rattle.yl_summary.specs.Edit.{sections_upto}
use Rattle.yl_summary.specs.Overview.{AreFew, AreOverviews, IsOverviewOf}
use Rattle.yl_summary.proofs.Joined.{rest, survey_put}
use Rattle.yl_summary.proofs.edit.SectionEdit.survey.Goals as goal

pub returns-clause-survey : goal.returns-clause-survey
returns-clause-survey g c =
    let e = c.args.self.now in
    let near = c.requires.near in
    let range = c.requires.range in
    let os = e.overviews.now in
    let first = e.near.start.overviews in
    let last = e.near.stop.overviews in
    let back = take (length os - last) (drop last os) in
    let is = sym c.spliced.ensures in record {
      few = subst (λ (ks : List KeptValue). AreFew ks) is c.requires.few_then;
      all = subst (λ (ks : List KeptValue). IsOverviewOf ks c.after.result) is c.after.ensures;
      parts =
          subst (λ (ks : List KeptValue). AreOverviews ks (take first os ++ c.between.result ∷ back)) is
          (survey_put e.sections.now.items e.kept.now os e.from e.end range.ordered range.within e.near.start.sections first e.near.stop.sections last (sections_upto e) c.between.result back near.start near.stop near.upto near.behind (omega (arith, near.behind)) c.between.ensures (rest os last));
    }
