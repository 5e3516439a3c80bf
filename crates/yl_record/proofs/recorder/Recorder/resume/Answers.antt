use Rattle.std.proofs.Common.{[], true, false, ap, ◌∙◌}
use Rattle.yl_scan.specs.Scanner.{ScannerValue}
use Rattle.yl_record.specs.Recorded.{RecorderValue}
use Rattle.yl_scan.specs.Scanner.{begun_at}
use Rattle.yl_record.proofs.Fits.{fresh_at}
use Rattle.yl_record.proofs.Joined.{resumed_recorded}
use Rattle.yl_record.proofs.recorder.Recorder.resume.Goals as goal

pub returns-clause-told : goal.returns-clause-told
returns-clause-told g c =
    resumed_recorded c.over.result c.args.state.now
    (c.over.ensures ∙ ap (λ (s : ScannerValue). let r : RecorderValue = record { records = []; taken = 0; stand = s.stand; states = s.states; refused = false } in r) c.in_ok-scanner.ensures.at)

pub over-requires-clause-fresh : goal.over-requires-clause-fresh
over-requires-clause-fresh g c = ap (λ (s : ScannerValue). begun_at s.stand) c.in_ok-scanner.ensures.at ∙ fresh_at c.args.state.now
