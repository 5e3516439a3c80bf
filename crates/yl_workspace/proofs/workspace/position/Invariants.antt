use Rattle.std.proofs.Common.{◌≡◌, ◌+◌, drop}
use Rattle.yl_workspace.proofs.Lists.{place}
use Rattle.yl_workspace.proofs.workspace.position.Given as goal

abbrev pub invariant-loop-i : goal.invariant-loop-i
invariant-loop-i g l = place l.uri l.documents ≡ l.i + place l.uri (drop l.i l.documents)
