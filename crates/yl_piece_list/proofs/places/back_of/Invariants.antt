use Rattle.std.proofs.Common.{◌≡◌, ◌+◌, ◌-◌, ◌<◌, ◌≤◌, ℕ, false, length, take}
use Rattle.yl_sections.specs.Local.{is_start_at}
use Rattle.yl_sections.specs.Kept.{rows_kept}
use Rattle.yl_section_pieces.specs.Pieces.{summaries}
use Rattle.yl_section_pieces.specs.Sections.{IsSectionBorder}
use Rattle.yl_piece_list.proofs.places.back_of.Given as goal

abbrev pub invariant-loop-section : goal.invariant-loop-section
invariant-loop-section g l = record {
  from : l.fn.from.section ≤ l.section;
  within : l.section ≤ length l.pieces;
  at : l.row ≡ rows_kept (take l.section (summaries l.pieces));
  passed : (j : ℕ) → l.fn.from.section ≤ j → j < l.section → IsSectionBorder l.pieces j × (l.old_end ≤ rows_kept (take j (summaries l.pieces)))
      → is_start_at l.records (rows_kept (take j (summaries l.pieces)) - l.old_end + l.end) ≡ false;
}

abbrev pub decreases-loop-section : goal.decreases-loop-section
decreases-loop-section g l = l.count - l.section
