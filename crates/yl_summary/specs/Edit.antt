-- Bridge: an edit of sections, and what is known of them.
use Rattle.std.specs.Prelude.{◌≤◌, ◌+◌, ◌-◌, ℕ, List, length, take, drop}
use Rattle.std.specs.List.{splice}
use Rattle.yl_text.specs.Store.{IsRange}
use Rattle.yl_sections.specs.Kept.{KeptValue}
use Rattle.yl_summary.specs.Overview.{AreFew, AreOverviews, IsBorder, IsOverviewOf}
use Rattle.yl_summary.specs.declared.edit.Nearby.{Nearby}
use Rattle.yl_summary.specs.declared.edit.SectionEdit.{SectionEdit}
use Rattle.yl_summary.specs.declared.overview.Overview.{Overview}

-- the two borders are at or before the sections `from..end` that an edit replaces, and at or after
-- them; `above` and `below` are the overviews of the sections between the borders and the edit
pub record IsNearby (ks : List KeptValue) (os : List Overview) (from end : ℕ) (n : Nearby) : Type 0 where
  pub start : IsBorder ks os n.start.sections n.start.overviews
  pub stop : IsBorder ks os n.stop.sections n.stop.overviews
  pub upto : n.start.sections ≤ from
  pub behind : end ≤ n.stop.sections
  pub above : IsOverviewOf (take (from - n.start.sections) (drop n.start.sections ks)) n.above
  pub below : IsOverviewOf (take (n.stop.sections - end) (drop end ks)) n.below

-- the edit has the overviews of the sections above, of those that are removed, of those that are
-- inserted, and of those below
pub record IsSectionEdit {A : Type 0} (e : SectionEdit A) : Type 0 where
  pub range : IsRange e.from e.end (length e.sections.now.items)
  pub few : AreFew e.sections.now.items
  pub few_then : AreFew (splice e.sections.now.items e.from e.end e.kept.now)
  pub overviews : AreOverviews e.sections.now.items e.overviews.now
  pub near : IsNearby e.sections.now.items e.overviews.now e.from e.end e.near
  pub above : IsOverviewOf (take e.from e.sections.now.items) e.above
  pub gone : IsOverviewOf (take (e.end - e.from) (drop e.from e.sections.now.items)) e.gone
  pub come : IsOverviewOf e.kept.now e.come
  pub below : IsOverviewOf (drop e.end e.sections.now.items) e.below

-- all sections after the edit
abbrev pub sections_after : {A : Type 0} → SectionEdit A → List KeptValue
sections_after e = splice e.sections.now.items e.from e.end e.kept.now

-- the number of sections before the lower border, after the edit
abbrev pub sections_upto : {A : Type 0} → SectionEdit A → ℕ
sections_upto e = e.near.stop.sections - e.end + e.from + length e.kept.now
