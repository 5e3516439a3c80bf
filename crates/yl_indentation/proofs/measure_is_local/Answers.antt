use Rattle.yl_indentation.proofs.Measured.{measure_is_local}
use Rattle.yl_indentation.proofs.measure_is_local.Goals as goal

pub returns : goal.returns
returns c = measure_is_local
