use Rattle.yl_record.proofs.Fits.{keeps_none}
use Rattle.yl_record.proofs.recorder.Recorder.over.Goals as goal

pub invariant_of-result : goal.invariant_of-result
invariant_of-result g c = λ h. keeps_none c.new.result.items c.args.scanner c.new.ensures.items c.requires.line c.requires.fresh
