-- Bridge: laws of where it stands what is kept of pieces: each in its own lines, where the rules on keys and anchors are given their part by
-- lines.
use Rattle.std.specs.Prelude.{◌≡◌, ℕ, ◌+◌, ◌<◌, List, length, map, None}
use Rattle.std.specs.List.{AllByRecursion}
use Rattle.yl_text.specs.Finding.{FindingValue}
use Rattle.yl_config.specs.declared.config.Config.{Config}
use Rattle.yl_record.specs.Records.{RecordValue}
use Rattle.yl_sections.specs.Judge.{kept_of_section}
use Rattle.yl_pieces.specs.Patched.{below_first, in_first, row_of}
use Rattle.yl_piece_reports.specs.Plain.{IsWithin, StandsWithin}
use Rattle.yl_piece_reports.specs.Told.{PieceStart, finding_above, found_in_events, kept_of_piece}

-- what is found in so many rows, cut where the first so many of them end
pub record AreWithinParts (front rest : ℕ) (fs : List FindingValue) : Type 0 where
  pub above : AllByRecursion (IsWithin front) (in_first row_of front fs)
  pub below : AllByRecursion (IsWithin rest) (map (finding_above front) (below_first row_of front fs))

pub record PiecesStandWithin : Type 0 where
  -- a piece, if so does what the rules on keys and anchors find in it
  pub piece : (config : Config) (p : PieceStart) (rs : List RecordValue) (in_events : List FindingValue)
      → AllByRecursion (IsWithin (length rs)) in_events → StandsWithin (kept_of_piece config p rs in_events)
  -- which it does in a section without a fault
  pub section : (config : Config) (rs : List RecordValue) → (kept_of_section config rs).fault ≡ None → AllByRecursion (IsWithin (length rs)) (found_in_events config rs)
  -- and in each of two pieces
  pub parts : (front rest : ℕ) (fs : List FindingValue) → 0 < front → AllByRecursion (IsWithin (front + rest)) fs → AreWithinParts front rest fs
