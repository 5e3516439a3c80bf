use Rattle.std.proofs.Common.{◌≡◌, ◌<◌, ◌≤◌, ℕ, false, take}
use Rattle.yl_sections.specs.Local.{is_start_at}
use Rattle.yl_sections.specs.Kept.{rows_kept}
use Rattle.yl_section_pieces.specs.Pieces.{summaries}
use Rattle.yl_section_pieces.specs.Sections.{IsSectionBorder}
use Rattle.yl_piece_list.proofs.places.front_of.Given as goal

abbrev pub invariant-loop-section : goal.invariant-loop-section
invariant-loop-section g l = record {
  section : l.section ≤ l.fn.from.section;
  at : l.row ≡ rows_kept (take l.section (summaries l.pieces));
  row : l.row ≤ l.fn.from.row;
  passed : (j : ℕ) → l.section < j → j ≤ l.fn.from.section → IsSectionBorder l.pieces j → is_start_at l.records (rows_kept (take j (summaries l.pieces))) ≡ false;
}

abbrev pub decreases-loop-section : goal.decreases-loop-section
decreases-loop-section g l = l.section
