use Rattle.std.proofs.Common.{◌≡◌, ◌<◌, ◌≤◌, ◌+◌, ◌-◌, ℕ, true, false, length, drop}
use Rattle.yl_record.specs.Records.{characters_in, records}
use Rattle.yl_record.specs.Recorded.{recorded}
use Rattle.yl_rescan.specs.Agree.{state_of_row, GoesOn}
use Rattle.yl_rescan.proofs.scanning.rescan_from.Given as goal

abbrev pub invariant-loop-i : goal.invariant-loop-i
invariant-loop-i g l =
    let rows = g.L.Lines.rows l.lines in
    record {
      told : recorded l.recorder (characters_in (drop l.i rows)) ≡ drop l.from.row (records (characters_in rows));
      fed : length l.recorder.records ≡ l.i - l.from.row;
      taken : l.recorder.taken ≡ 0;
      states : l.recorder.states ≡ true;
      whole : l.recorder.refused ≡ false;
      goes_on : (j : ℕ) → l.stop ≤ j → j < l.i → GoesOn l.old.items l.cut (j - l.stop + l.b) (state_of_row (records (characters_in rows)) j);
      lines : l.meter.lines ≡ l.initial.meter.lines + (l.i - l.from.row);
      documents : l.meter.documents ≡ l.initial.meter.documents;
    }
