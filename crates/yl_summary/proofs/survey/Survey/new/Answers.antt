use Rattle.std.proofs.Common.{List, [], ◌∷◌, ◌++◌, append-nil, subst, sym, ◌∙◌}
use Rattle.yl_sections.specs.Kept.{KeptValue}
use Rattle.yl_summary.specs.Overview.{AreFew, AreOverviews, IsOverviewOf}
use Rattle.yl_summary.proofs.Joined.{overviews_push}
use Rattle.yl_summary.proofs.survey.Survey.new.Goals as goal

pub returns-clause-survey : goal.returns-clause-survey
returns-clause-survey g c =
    let ks = c.args.sections.now.items in
    let os = c.args.overviews.now in
    let is = sym c.new.ensures in
    record {
      few = subst (λ (ls : List KeptValue). AreFew ls) is c.requires.few;
      all = subst (λ (ls : List KeptValue). IsOverviewOf ls c.all_of.result) is (c.all_of.ensures ks c.requires.few c.requires.overviews);
      parts = subst (λ (ls : List KeptValue). AreOverviews ls (os ++ c.empty.result ∷ [])) (append-nil ks ∙ is) (overviews_push ks [] os c.empty.result c.requires.overviews c.empty.ensures);
    }
