use Rattle.std.proofs.Common.{◌≡◌, ◌++◌, drop}
use Rattle.std.specs.List.{flat_map}
use Rattle.yl_dump.specs.EventLine.{event_line}
use Rattle.yl_dump.proofs.event.print_events.Given as goal

abbrev pub invariant-loop-outline : goal.invariant-loop-outline
invariant-loop-outline g l = l.page ++ flat_map (event_line l.group) (drop l.outline-index l.outlines) ≡ l.fn.page ++ flat_map (event_line l.group) l.outlines
