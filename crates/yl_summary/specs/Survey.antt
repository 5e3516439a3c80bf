-- Bridge: sections, with overviews of some each.
use Rattle.std.specs.Prelude.{◌∷◌, ◌++◌}
use Rattle.yl_summary.specs.Overview.{AreFew, AreOverviews, IsOverviewOf}
use Rattle.yl_summary.specs.declared.survey.Survey.{Survey}

-- what the survey says of its sections is so
pub record IsSurvey {A : Type 0} (s : Survey A) : Type 0 where
  pub few : AreFew s.sections
  pub all : IsOverviewOf s.sections s.all
  pub parts : AreOverviews s.sections (s.above.now ++ s.near ∷ s.below.now)
