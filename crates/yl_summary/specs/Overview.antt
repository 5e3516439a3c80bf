-- Bridge: what is known of consecutive sections: where the first one with a fault is, the measure
-- of their facts, and which of them may silence rules.
use Rattle.std.specs.Prelude.{◌≡◌, ◌<◌, ◌≤◌, ◌^◌, ℕ, Bool, true, length, take, drop, slice_get, is_some, List, [], ◌∷◌, Some, None}
use Rattle.std.specs.List.{AllByRecursion, list_any}
use Rattle.yl_indentation.specs.Measures.{measure_of}
use Rattle.yl_sections.specs.Kept.{KeptValue, rows_kept}
use Rattle.yl_lint.specs.TextReport.{facts_in_sections}
use Rattle.yl_summary.specs.declared.overview.Overview.{Overview}
use Rattle.yl_summary.specs.declared.overview.Silencing.{Silencing}

-- some section has a fault
abbrev pub has_fault : List KeptValue → Bool
has_fault ks = list_any (λ k. is_some k.fault) ks

abbrev pub IsSound : KeptValue → Type 0
IsSound k = k.fault ≡ None

-- the first n sections have no fault
pub record IsSoundUpto (ks : List KeptValue) (n : ℕ) : Type 0 where
  pub within : n ≤ length ks
  pub sound : AllByRecursion IsSound (take n ks)

-- the section at the index n has a fault, if there is one at this index
abbrev pub IsFaulty : List KeptValue → ℕ → Type 0
IsFaulty ks n = (k : KeptValue) → slice_get ks n ≡ Some k → is_some k.fault ≡ true

-- `sound` sections are before the first one with a fault, or all are if none has a fault; they have
-- `row` lines
pub record IsFirstFault (ks : List KeptValue) (sound row : ℕ) : Type 0 where
  pub upto : IsSoundUpto ks sound
  pub next : IsFaulty ks sound
  pub rows : row ≡ rows_kept (take sound ks)

-- the section has no comment that may silence a rule
abbrev pub IsSilent : KeptValue → Type 0
IsSilent k = k.comments ≡ []

-- the first `from` sections are silent and have `row` lines
pub record IsStart (ks : List KeptValue) (from row : ℕ) : Type 0 where
  pub within : from ≤ length ks
  pub silent : AllByRecursion IsSilent (take from ks)
  pub rows : row ≡ rows_kept (take from ks)

-- each section that is not silent has an index from `from` on, before `end`
pub record IsSilencingOf (ks : List KeptValue) (s : Silencing) : Type 0 where
  pub start : IsStart ks s.from s.row
  pub within : s.end ≤ length ks
  pub behind : AllByRecursion IsSilent (drop s.end ks)

-- the sections and their lines are few enough to be counted
pub record AreFew (ks : List KeptValue) : Type 0 where
  pub sections : length ks < 2 ^ 63
  pub rows : rows_kept ks < 2 ^ 32

-- the overview of sections
pub record IsOverviewOf (ks : List KeptValue) (o : Overview) : Type 0 where
  pub sections : o.sections ≡ length ks
  pub rows : o.rows ≡ rows_kept ks
  pub first : IsFirstFault ks o.sound o.row
  pub whole : o.whole ≡ measure_of (facts_in_sections ks)
  pub silencing : IsSilencingOf ks o.silencing

-- the overviews of some sections each, which together are all of these sections
abbrev pub AreOverviews : List KeptValue → List Overview → Type 0
AreOverviews ks [] = ks ≡ []
AreOverviews ks (o ∷ os) = IsOverviewOf (take o.sections ks) o × AreOverviews (drop o.sections ks) os

-- a border between overviews: `sections` sections are before it, and the first `overviews`
-- overviews are theirs
pub record IsBorder (ks : List KeptValue) (os : List Overview) (sections overviews : ℕ) : Type 0 where
  pub within : sections ≤ length ks
  pub count : overviews ≤ length os
  pub above : AreOverviews (take sections ks) (take overviews os)
  pub below : AreOverviews (drop sections ks) (drop overviews os)
