use Rattle.std.proofs.Common.{◌≡◌, ◌+◌, ◌-◌, ◌++◌, drop, length, map}
use Rattle.yl_pieces.specs.Patched.{row_of}
use Rattle.yl_piece_reports.specs.Told.{finding_above}
use Rattle.yl_section_pieces.specs.Cut.{above_row}
use Rattle.yl_section_pieces.proofs.lists.found_in.Given as goal

abbrev pub invariant-loop-at : goal.invariant-loop-at
invariant-loop-at g l = record {
  items : l.part.items ++ map (finding_above l.rows.start) (above_row row_of l.rows.end (drop l.at (map (λ f. f.now) l.found))) ≡ map (finding_above l.rows.start) (above_row row_of l.rows.end (drop l.fn.at (map (λ f. f.now) l.found)));
  next : l.at ≡ l.fn.at + length l.part.items;
}

abbrev pub decreases-loop-at : goal.decreases-loop-at
decreases-loop-at g l = length l.found - l.at
