use Rattle.std.proofs.Common.{◌≡◌, ◌≤◌, length, take}
use Rattle.yl_text.specs.Character.{without_end}
use Rattle.yl_scalar.proofs.character.without_end.Given as goal

abbrev pub invariant-loop-len : goal.invariant-loop-len
invariant-loop-len l = record { within : l.len ≤ length l.row; same : without_end (take l.len l.row) ≡ without_end l.row }

abbrev pub decreases-loop-len : goal.decreases-loop-len
decreases-loop-len l = l.len
