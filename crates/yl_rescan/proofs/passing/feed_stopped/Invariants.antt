use Rattle.std.proofs.Common.{◌≡◌, ◌++◌, ◌+◌, ◌-◌, ℕ, List, false, drop, length, take}
use Rattle.yl_row.specs.Entries.{Stopped}
use Rattle.yl_record.specs.Records.{characters_in}
use Rattle.yl_record.specs.Recorded.{records_from}
use Rattle.yl_record.specs.Recorded.{recorded}
use Rattle.yl_rescan.proofs.passing.feed_stopped.Given as goal

abbrev pub invariant-loop-i : goal.invariant-loop-i
invariant-loop-i g l =
    let rows = characters_in (g.L.Lines.rows l.lines) in
    record {
      told : (rest : List (List ℕ)) → recorded l.recorder rest ≡ records_from Stopped (drop l.from (take l.i rows) ++ rest);
      fed : length l.recorder.records ≡ l.i - l.from;
      taken : l.recorder.taken ≡ 0;
      whole : l.recorder.refused ≡ false;
      lines : l.meter.lines ≡ l.initial.meter.lines + (l.i - l.from);
      documents : l.meter.documents ≡ l.initial.meter.documents;
    }
