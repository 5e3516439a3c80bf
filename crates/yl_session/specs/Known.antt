-- Bridge: what a session knows of the sections of its text.
use Rattle.std.specs.Prelude.{List, Option, Vec, MatchOption}
use Rattle.yl_sections.specs.Kept.{KeptValue}
use Rattle.yl_summary.specs.Overview.{AreOverviews}
use Rattle.yl_summary.specs.declared.overview.Overview.{Overview}

-- the new overviews are those of these sections, or the old ones are if there are no new ones
abbrev pub AreOverviewsAfter : {A : Type 0} → List KeptValue → List Overview → Option (Vec Overview A) → Type 0
AreOverviewsAfter ks os anew = MatchOption anew (AreOverviews ks os) (λ v. AreOverviews ks v.items)
