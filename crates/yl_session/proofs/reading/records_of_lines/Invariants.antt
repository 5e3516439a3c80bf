use Rattle.std.proofs.Common.{◌≤◌, ◌+◌}
use Rattle.yl_session.specs.Reading.{IsReadTo}
use Rattle.yl_session.proofs.reading.records_of_lines.Given as goal

abbrev pub invariant-loop-i : goal.invariant-loop-i
invariant-loop-i g l = record {
  read : IsReadTo (g.L.Lines.rows l.lines) l.i l.records.items l.recorder;
  lines : l.meter.lines ≤ l.i + l.i;
}
