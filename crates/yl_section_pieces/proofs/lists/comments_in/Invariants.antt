use Rattle.std.proofs.Common.{◌≡◌, ◌+◌, ◌-◌, ◌++◌, drop, length, map}
use Rattle.yl_piece_reports.specs.Told.{comment_above}
use Rattle.yl_section_pieces.specs.Cut.{above_row}
use Rattle.yl_section_pieces.proofs.lists.comments_in.Given as goal

abbrev pub invariant-loop-at : goal.invariant-loop-at
invariant-loop-at g l = record {
  items : l.part.items ++ map (comment_above l.rows.start) (above_row (λ c. c.line) l.rows.end (drop l.at l.comments)) ≡ map (comment_above l.rows.start) (above_row (λ c. c.line) l.rows.end (drop l.fn.at l.comments));
  next : l.at ≡ l.fn.at + length l.part.items;
}

abbrev pub decreases-loop-at : goal.decreases-loop-at
decreases-loop-at g l = length l.comments - l.at
