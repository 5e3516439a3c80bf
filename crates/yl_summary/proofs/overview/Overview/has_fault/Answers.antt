use Rattle.yl_summary.proofs.Whole.{fault_told}
use Rattle.yl_summary.proofs.overview.Overview.has_fault.Goals as goal

pub returns : goal.returns
returns c = λ ks known. fault_told ks c.args.self.sound c.args.self.row c.args.self.sections known.sections known.first
