use Rattle.std.proofs.Common.{◌≡◌, ◌<◌, ◌≤◌, ℕ, None}
use Rattle.yl_rescan.specs.Agree.{state_of_row}
use Rattle.yl_rescan.proofs.scanning.last_sound.Given as goal

abbrev pub invariant-loop-row : goal.invariant-loop-row
invariant-loop-row g l = record {
  below : l.row ≤ l.a;
  none : (j : ℕ) → l.row ≤ j → j < l.a → state_of_row l.records.items j ≡ None;
}

abbrev pub decreases-loop-row : goal.decreases-loop-row
decreases-loop-row g l = l.row
