use Rattle.std.proofs.Common.{◌≡◌, ◌+◌, ◌-◌, ◌++◌, drop, length, map}
use Rattle.yl_piece_reports.specs.Told.{fact_above}
use Rattle.yl_section_pieces.specs.Cut.{above_row}
use Rattle.yl_section_pieces.proofs.lists.facts_in.Given as goal

abbrev pub invariant-loop-at : goal.invariant-loop-at
invariant-loop-at g l = record {
  items : l.part.items ++ map (fact_above l.rows.start) (above_row (λ f. f.line) l.rows.end (drop l.at l.facts)) ≡ map (fact_above l.rows.start) (above_row (λ f. f.line) l.rows.end (drop l.fn.at l.facts));
  next : l.at ≡ l.fn.at + length l.part.items;
}

abbrev pub decreases-loop-at : goal.decreases-loop-at
decreases-loop-at g l = length l.facts - l.at
