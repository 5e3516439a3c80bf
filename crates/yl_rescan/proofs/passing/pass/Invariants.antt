use Rattle.std.proofs.Common.{◌≡◌, ◌++◌, drop, take}
use Rattle.yl_row.specs.Entries.{Stopped}
use Rattle.yl_record.specs.Records.{characters_in}
use Rattle.yl_record.specs.Recorded.{records_from}
use Rattle.yl_rescan.proofs.passing.pass.Given as goal

abbrev pub invariant-loop-i : goal.invariant-loop-i
invariant-loop-i g l =
    let rows = characters_in (g.L.Lines.rows l.lines) in
    l.records.items ≡ l.initial.records.items ++ records_from Stopped (drop l.from (take l.i rows))
