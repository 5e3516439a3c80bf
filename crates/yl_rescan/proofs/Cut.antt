-- The sections of a text in which reading stops at a row, and those of the records that are kept of it, cut at that row.
use Rattle.std.proofs.Common.{◌≡◌, ◌++◌, ℕ, List, take, drop, ap, sym, subst, ◌∙◌, Some, None, arith}
use Rattle.std.proofs.lemmas.List.{length-take-le, take-append-drop}
use Rattle.std.specs.List.{AllByRecursion}
use Rattle.yl_row.specs.Entries.{Stopped, entries}
use Rattle.yl_scan.specs.Restart.{state_at}
use Rattle.yl_record.specs.Records.{RecordValue, records}
use Rattle.yl_sections.specs.Sections.{sections}
use Rattle.yl_sections.specs.Local.{all_rows, row_total}
use Rattle.yl_sections.proofs.Local.{joined_parts}
use Rattle.yl_rescan.specs.Held.{IsCutAt}
use Rattle.yl_sections.proofs.Quiet.{IsQuietRow}
use Rattle.yl_rescan.proofs.Stops.{Fails, fails_above, quiet_below, row_within, stopped_at, without_lexemes}
use Rattle.yl_sections.proofs.QuietSections.{grown, rows_of_all, sections_at, sections_grown}

-- ---- the text's

module _ (t : List (List ℕ)) (cut : ℕ) (stopped : state_at (entries t) cut ≡ Some Stopped) where
  abbrev pub above : List RecordValue
  above = take cut (records t)

  abbrev pub below : List RecordValue
  below = drop cut (records t)

  pub quiet : AllByRecursion IsQuietRow below
  quiet = quiet_below t cut stopped

  -- the rows behind the fault belong to the last section that begins above them
  pub true_sections : sections (records t) ≡ grown below (sections above)
  true_sections = ap sections (sym (take-append-drop cut (records t))) ∙ sections_grown above below (without_lexemes below quiet)

  pub fails : Fails (all_rows (sections above))
  fails = subst (λ (es : List RecordValue). Fails es) (sym (joined_parts None above)) (fails_above t cut stopped)

  pub rows_above : row_total (sections above) ≡ cut
  rows_above = rows_of_all above ∙ length-take-le cut (records t) (omega (arith, row_within t cut stopped))

-- ---- those that are kept

pub stops_at : (t : List (List ℕ)) (cut : ℕ) (rs : List RecordValue) → IsCutAt t cut rs → state_at (entries t) cut ≡ Some Stopped
stops_at t cut rs c = stopped_at t cut c.stopped

pub held_sections : (t : List (List ℕ)) (cut : ℕ) (rs : List RecordValue) → IsCutAt t cut rs → sections rs ≡ sections (take cut (records t)) ++ sections (drop cut rs)
held_sections t cut rs c = sections_at rs cut c.start ∙ ap (λ (es : List RecordValue). sections es ++ sections (drop cut rs)) c.front
