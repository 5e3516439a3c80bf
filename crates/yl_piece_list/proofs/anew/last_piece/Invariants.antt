use Rattle.std.proofs.Common.{◌≡◌, ◌-◌, ◌<◌, ◌≤◌, ℕ, length, take}
use Rattle.yl_sections.specs.Kept.{rows_kept}
use Rattle.yl_section_pieces.specs.Pieces.{summaries}
use Rattle.yl_section_pieces.specs.Sections.{IsSectionBorder}
use Rattle.yl_piece_list.proofs.anew.last_piece.Given as goal

abbrev pub invariant-loop-section : goal.invariant-loop-section
invariant-loop-section g l = record {
  order : l.fn.first.section ≤ l.section;
  within : l.section < length l.pieces;
  at : l.row ≡ rows_kept (take l.section (summaries l.pieces));
  passed : (j : ℕ) → l.fn.first.section < j → j ≤ l.section → IsSectionBorder l.pieces j → ⊥;
}

abbrev pub decreases-loop-section : goal.decreases-loop-section
decreases-loop-section g l = l.count - l.section
