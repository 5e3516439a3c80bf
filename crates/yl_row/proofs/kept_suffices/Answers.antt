use Rattle.yl_row.proofs.Agree.{run-entries}
use Rattle.yl_row.proofs.kept_suffices.Goals as goal

pub returns : goal.returns
returns c = run-entries
