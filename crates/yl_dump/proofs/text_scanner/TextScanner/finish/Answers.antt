use Rattle.yl_scan.specs.Step.{at_end, step_value}
use Rattle.yl_dump.proofs.Told.{finish_told}
use Rattle.yl_dump.proofs.text_scanner.TextScanner.finish.Goals as goal

pub returns : goal.returns
returns g c = finish_told c.finish.result (λ line s step. at_end (step_value line s step)) _ _ c.self.view_is c.requires c.finish.ensures.told
