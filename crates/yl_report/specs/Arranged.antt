-- Meaning: what it is to be in order, each once: of one list there is one such list.
use Rattle.std.specs.Prelude.{◌≡◌, List}
use Rattle.std.specs.List.{Contains}
use Rattle.std.specs.List.Sorted.{IsStrictlySortedBy}
use Rattle.yl_text.specs.Finding.{FindingValue}
use Rattle.yl_report.specs.Report.{finding_order, sorted_once}

-- ys has the members of xs and no other, and increases strictly
pub record IsArranged (xs ys : List FindingValue) : Type 0 where
  pub sorted : IsStrictlySortedBy finding_order ys
  pub all : (f : FindingValue) → Contains xs f → Contains ys f
  pub only : (f : FindingValue) → Contains ys f → Contains xs f

-- no list has two arrangements
abbrev pub OneArrangement : Type 0
OneArrangement = (xs ys zs : List FindingValue) → IsArranged xs ys → IsArranged xs zs → ys ≡ zs

-- `sorted_once` is the one
abbrev pub SortedOnceArranges : Type 0
SortedOnceArranges = (xs : List FindingValue) → IsArranged xs (sorted_once xs)
