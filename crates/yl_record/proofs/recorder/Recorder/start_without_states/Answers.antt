use Rattle.std.proofs.Common.{[], false, ap, ◌∙◌}
use Rattle.yl_scan.specs.Scanner.{ScannerValue}
use Rattle.yl_record.specs.Recorded.{RecorderValue}
use Rattle.yl_record.proofs.Joined.{start_recorded}
use Rattle.yl_record.proofs.recorder.Recorder.start_without_states.Goals as goal

pub returns-clause-told : goal.returns-clause-told
returns-clause-told g c =
    start_recorded c.over.result false c.start_without_states-scanner.result.stand
    (c.over.ensures ∙ ap (λ (s : ScannerValue). let r : RecorderValue = record { records = []; taken = 0; stand = c.start_without_states-scanner.result.stand; states = s.states; refused = false } in r) c.start_without_states-scanner.ensures)
    (ap (λ (s : ScannerValue). s.stand) c.start_without_states-scanner.ensures)
