use Rattle.std.proofs.Common.{◌≡◌, ◌+◌, drop}
use Rattle.yl_row.specs.Entries.{entries}
use Rattle.yl_scan.specs.Output.{output_of_entries}
use Rattle.yl_scan.specs.Remaining.{remaining_output}
use Rattle.yl_scan.specs.Step.{characters_of}
use Rattle.yl_scan.specs.Whole.{text_value_of_output, scanned_text_value, text_value_then}
use Rattle.yl_scan.proofs.whole.scan.Given as goal

abbrev pub invariant-loop-row : goal.invariant-loop-row
invariant-loop-row g l = record {
  line : l.scanner.line ≡ l.row-index;
  meter : l.meter ≡ record { lines = l.fn.meter.lines + l.row-index; documents = l.fn.meter.documents };
  told : text_value_then (scanned_text_value l.scanned) (remaining_output l.scanner.line l.scanner.stand (characters_of (drop l.row-index l.rows))) ≡ text_value_of_output (output_of_entries 0 (entries (characters_of l.rows)));
}
