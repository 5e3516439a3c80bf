use Rattle.yl_report.proofs.Unique.{one_arrangement}
use Rattle.yl_report.proofs.Inserted.{sorted_once_arranged}
use Rattle.yl_report.proofs.arranging.one_arrangement.Goals as goal

pub returns : goal.returns
returns c = record { unique = one_arrangement; exists = sorted_once_arranged }
