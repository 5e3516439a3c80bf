use Rattle.std.proofs.Common.{◌≡◌, length}
use Rattle.yl_server.proofs.Folders.{IsRefreshedTo}
use Rattle.yl_server.proofs.governed.refresh.Given as goal

-- whatever is found of the rest, and whatever memory they are granted, all are by then as something is found of all
abbrev pub invariant-loop-i : goal.invariant-loop-i
invariant-loop-i g l = record {
  counted : length l.workspace ≡ l.i-end;
  made : IsRefreshedTo l.i l.fn.workspace l.workspace l.refreshed.is_changed l.refreshed.fault;
}
