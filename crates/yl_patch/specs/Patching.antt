-- Bridge: what a patch of both lists of problems says of an edit of some sections.
use Rattle.std.specs.Prelude.{◌≡◌, ◌<◌, ◌+◌, ◌-◌, ℕ, Bool, false, not, List, take, drop, Option, Some, None, IsSome}
use Rattle.std.specs.List.{filter, splice}
use Rattle.yl_text.specs.Lines.{RowValue}
use Rattle.yl_config.specs.declared.config.Config.{Config}
use Rattle.yl_report.specs.Directive.{disables_file}
use Rattle.yl_report.specs.Report.{ProblemValue}
use Rattle.yl_sections.specs.Kept.{KeptValue, rows_kept}
use Rattle.yl_lint.specs.TextReport.{first_text}
use Rattle.yl_problem_lists.specs.Changes.{PatchValue}
use Rattle.yl_problem_lists.specs.Following.{IsJudgedAgain, found_after}
use Rattle.yl_found.specs.Found.{fault_told, found_by, is_shown}
use Rattle.yl_summary.specs.Overview.{has_fault}
use Rattle.yl_patch.specs.Speaking.{SpeakAlike}

-- the sections `new` replace those with the indices from `from` on, before `end`: the first line
-- silences the file as before; and if no section above has a fault, the new sections have a fault
-- just if the old ones had one, and their comments say the same of all lines below
pub record StaysShown (rows after : List RowValue) (ks new : List KeptValue) (from end : ℕ) : Type 0 where
  pub file : disables_file (first_text after) ≡ disables_file (first_text rows)
  pub faults : has_fault (take from ks) ≡ false → has_fault (take (end - from) (drop from ks)) ≡ has_fault new
  pub comments : has_fault (take from ks) ≡ false → SpeakAlike (take (end - from) (drop from ks)) new

-- the same problems below are shown as before, or this test says which are shown
abbrev pub SaysBelow : Option (ProblemValue → Bool) → List RowValue → List RowValue → List KeptValue → List KeptValue → ℕ → ℕ → Type 0
SaysBelow None rows after ks new from end = StaysShown rows after ks new from end
SaysBelow (Some shows) rows after ks new from end = (q : ProblemValue) → shows q ≡ is_shown after (splice ks from end new) q

-- the text has the lines `after`, and the sections `new` replace those with the indices from `from`
-- on, before `end`. The problems `found` are those in the lines of the new sections, split by what
-- is shown after the edit. `all` are the problems before the edit, except for indentation that is
-- judged again
pub record IsPatchOf (config : Config) (rows after : List RowValue) (ks new : List KeptValue) (from end : ℕ) (all found : List ProblemValue) (p : PatchValue) : Type 0 where
  pub first : p.first ≡ rows_kept (take from ks)
  pub old_end : p.old_end ≡ rows_kept (take end ks)
  pub new_end : p.new_end ≡ rows_kept (take from ks) + rows_kept new
  pub old_some : p.first < p.old_end
  pub new_some : p.first < p.new_end
  pub judged : IsJudgedAgain p.old_end p.indentation (found_by config rows ks) all
  pub told : IsSome p.indentation → IsSome p.below
  pub all_after : found_by config after (splice ks from end new) ≡ found_after p found all
  pub shown : p.shown ≡ filter (is_shown after (splice ks from end new)) found
  pub suppressed : p.suppressed ≡ filter (λ q. not (is_shown after (splice ks from end new) q)) found
  pub below : SaysBelow p.below rows after ks new from end
  pub fault : p.fault ≡ fault_told config after (splice ks from end new)
