use Rattle.std.proofs.Common.{◌≡◌, ◌≤◌, take, None}
use Rattle.yl_sections.specs.Local.{kind_after}
use Rattle.yl_sections.proofs.starts.kind_before.Given as goal

abbrev pub invariant-loop-row : goal.invariant-loop-row
invariant-loop-row g l = record {
  within : l.row ≤ l.i;
  last : kind_after None (take l.row l.records) ≡ kind_after None (take l.i l.records);
}

abbrev pub decreases-loop-row : goal.decreases-loop-row
decreases-loop-row g l = l.row
