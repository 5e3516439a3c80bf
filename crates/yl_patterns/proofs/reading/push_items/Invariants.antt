use Rattle.std.proofs.Common.{length, ◌-◌, ◌≡◌, ◌≤◌, drop}
use Rattle.yl_patterns.specs.Reading.{items_after, items_of}
use Rattle.yl_patterns.proofs.Pieces.{joined}
use Rattle.yl_patterns.proofs.reading.push_items.Given as goal

abbrev pub invariant-loop-at : goal.invariant-loop-at
invariant-loop-at g l = record {
  within : l.at ≤ length l.text;
  items : joined l.items.items (items_after l.place 0 (drop l.at l.text)) ≡ joined l.fn.items.items (items_of l.text);
}

abbrev pub decreases-loop-at : goal.decreases-loop-at
decreases-loop-at g l = length l.text - l.at
