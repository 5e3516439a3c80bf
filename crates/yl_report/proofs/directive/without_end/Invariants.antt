use Rattle.std.proofs.Common.{◌≡◌, ◌≤◌, length, take}
use Rattle.yl_text.specs.Character.{without_end}
use Rattle.yl_report.proofs.directive.without_end.Given as goal

abbrev pub invariant-loop-end : goal.invariant-loop-end
invariant-loop-end l = record {
  within : l.end ≤ length l.text;
  same : without_end (take l.end l.text) ≡ without_end l.text;
}

abbrev pub decreases-loop-end : goal.decreases-loop-end
decreases-loop-end l = l.end
